-- A text that is measured and then written in as many bytes as it has, or in one less. Assumes nothing.
use Prim.Native.Nat.{ℕ, zero, suc, ◌-◌, ◌≤◌, ◌<◌}
use mathlib.Core.Path.{◌≡◌, refl, ap, ◌∙◌}
use mathlib.Core.List.{List, ◌++◌}
use mathlib.Core.Bool.{Bool, true, false}
use native.Mathlib.Omega.{arith}
use lib.ListN.{length, take, drop}
use lib.Seq.{length-take-le, take-append-le}
use borrow.Author.Tests.{le-leb, lt-leb}
use Rattle.tape.specs.Answer.{Outcome, counted, refused, outcome}
use Rattle.tape.specs.declared.answer.Answer.{Answer}
use Rattle.tape.specs.declared.answer.Answer.TheVariants as A
use Rattle.writer.specs.Outcome.{laid}
use Rattle.claims.specs.Lengths.{TellsLength}
use Rattle.claims.specs.Reserved.{room_for, reserved_answer, reserved_leaves}

-- an answer that is no count is handed on
pub handed : (less : Bool) (a : Answer) → ((n : ℕ) → a ≡ A.Count n → ⊥) → (s b : List ℕ)
    → (reserved_answer less (outcome a) (length b) ≡ outcome a) × (reserved_leaves less (outcome a) s b ≡ b)
handed less (A.Count n) h s b = absurd (h n refl)
handed less A.End h s b = (refl, refl)
handed less A.Misfit h s b = (refl, refl)
handed less A.BadNode h s b = (refl, refl)
handed less A.TooDeep h s b = (refl, refl)
handed less A.FiniteFloat h s b = (refl, refl)
handed less A.Unsuited h s b = (refl, refl)
handed less A.TextTooLong h s b = (refl, refl)
handed less A.NoLayout h s b = (refl, refl)
handed less A.OutsideGrammar h s b = (refl, refl)
handed less A.TapeTooLong h s b = (refl, refl)
handed less A.PastText h s b = (refl, refl)
handed less A.OutsideOldGrammar h s b = (refl, refl)
handed less A.OutputTooLong h s b = (refl, refl)

-- no more than was measured
pub room_most : (less : Bool) (k : ℕ) → room_for less k ≤ k
room_most true k = omega arith
room_most false k = omega arith

-- k bytes were told of the text s
module _ {told : Outcome} {s : List ℕ} {answer : ℕ → Outcome} {leaves : List ℕ → List ℕ} (w : TellsLength told s answer leaves) (b : List ℕ) (k : ℕ) (less : Bool) (e : told ≡ counted k) where
  -- and fewer are at hand: nothing is written
  pub too_few : length b < k → (refused 6 ≡ reserved_answer less told (length b)) × (b ≡ reserved_leaves less told s b)
  too_few h = rw (e, lt-leb k (length b) h) (go less k h, refl)
    where
      go : (less : Bool) (k : ℕ) → length b < k → refused 6 ≡ reserved_answer less (counted k) (length b)
      go false k h = rw (lt-leb k (length b) h)
      go true zero h = absurd (omega arith)
      go true (suc k) h = refl

  -- or as many: the writer gets m of them
  module _ (h : k ≤ length b) (m : ℕ) (r : m ≡ room_for less k) where
    m_most : m ≤ k
    m_most = let q = room_most less k in omega arith

    taken : length (take m b) ≡ m
    taken = let q = m_most in length-take-le m b (omega arith)

    pub reserved-answer : answer (length (take m b)) ≡ reserved_answer less told (length b)
    reserved-answer = rw (taken, r, e) (go less k e h)
      where
        go : (less : Bool) (k : ℕ) → told ≡ counted k → k ≤ length b → answer (room_for less k) ≡ reserved_answer less (counted k) (length b)
        go false k e h = rw (le-leb k (length b) h) (w.exact k e)
        go true zero e h = w.exact 0 e
        go true (suc k) e h = let m : suc k - 1 ≡ k = omega arith in rw m (w.one_less k e)

    pub reserved-leaves : leaves (take m b) ++ drop m b ≡ reserved_leaves less told s b
    unfolding laid
    reserved-leaves =
        let q = m_most in
        let c = w.counts k e in
        let l = c.0 in
        ap (λ (x : List ℕ). x ++ drop m b)
        (c.1.lays (take m b)
        ∙ ap (λ (i : ℕ). take i (s ++ drop (length s) (take m b))) taken
        ∙ take-append-le m s (drop (length s) (take m b)) (omega arith))
        ∙ rw (e, le-leb k (length b) h, r) refl
