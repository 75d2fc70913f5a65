-- The refusal of a whole tape, by the tests of the code. Assumes nothing.
use Prim.Native.Nat.{ℕ, ◌+◌, ◌-◌, ◌<◌, ◌≤◌}
use mathlib.Core.Path.{◌≡◌, refl, sym, ap, subst, ◌∙◌}
use mathlib.Core.List.{List}
use mathlib.Core.Bool.{Bool, true, false, ◌||◌, or-true}
use native.Mathlib.Omega.{arith}
use lib.Dec.{ltb, eqb}
use lib.ListN.{length, take, drop}
use Rattle.output.specs.Logic.{if}
use borrow.Author.Tests.{lt-ltb, le-ltb, eq-eqb, ne_eqb}
use Rattle.tape.specs.Bytes.{le_number, part, first}
use Rattle.tape.specs.Tape.{walk, body_of}
use Rattle.tape.specs.Verdict.{misfit, count_fault, verdict}
use Rattle.tape.specs.CheckSteps.{Checks}
use Rattle.tape.specs.Answer.{fault_number}
use Rattle.tape.specs.Checked.{BodyEnds, TapeChecks}
use Rattle.tape.specs.Tree.{size}
use Rattle.tape.specs.declared.answer.Fault.{Fault}
use Rattle.tape.specs.declared.answer.Fault.TheVariants as F
use Rattle.std.specs.Prelude.{Result, Ok, Err}
use Rattle.tape.specs.declared.Frame.TheVariants.{Top}
use Rattle.tape.specs.declared.check.Checked.{Checked}
use Rattle.tape.proofs.CodeFacts.{first_inner}
use Rattle.tape.proofs.CodeWalk.{fault_some}

-- ---- the length

module _ (t : List ℕ) where
  pub misfit_short : length t < 8 → misfit t ≡ true
  unfolding misfit
  misfit_short h = simp (lt-ltb _ _ h)

  pub misfit_long : 1_048_576 < length t → misfit t ≡ true
  unfolding misfit
  misfit_long h = simp (lt-ltb _ _ h, or-true (ltb (length t) 8))

  pub misfit_body : (le_number 4 (drop (length t - 8) t) + 8 ≡ length t → ⊥) → misfit t ≡ true
  unfolding misfit
  misfit_body h = simp (ne_eqb _ _ h, or-true (ltb (length t) 8 || ltb 1_048_576 (length t)))

  pub fits : 8 ≤ length t → length t ≤ 1_048_576 → le_number 4 (drop (length t - 8) t) + 8 ≡ length t → misfit t ≡ false
  unfolding misfit
  fits h g e = simp (le-ltb _ _ h, le-ltb _ _ g, eq-eqb _ _ e)

  pub misfits : misfit t ≡ true → BodyEnds t (Err F.Misfit)
  misfits e = record { fault = rw e refl; end = tt; most = tt }

  pub body_fits : (e : ℕ) → misfit t ≡ false → e + 8 ≡ length t → length t ≤ 1_048_576 → BodyEnds t (Ok e)
  body_fits e f h g = record { fault = rw f refl; end = h; most = g }

  -- a length that does not fit is told as such
  wrong : (f : Fault) (b : Bool) → fault_number f ≡ if b 1 0 → (b ≡ true) × (fault_number f ≡ 1)
  wrong f true e = (refl, e)
  wrong f false e = absurd (fault_some f e)

  right : (b : Bool) → ◌≡◌ {A = ℕ} 0 (if b 1 0) → b ≡ false
  right true e = absurd (omega arith)
  right false e = refl

  pub refuse_misfit : (f : Fault) → BodyEnds t (Err f) → TapeChecks t (Err f)
  unfolding verdict
  refuse_misfit f e = let y = wrong f (misfit t) e.fault in record { fault = rw y.0 y.1; counts = tt }

-- ---- the nodes, then their number

-- the body ends at e
module _ (t : List ℕ) (e : ℕ) (b : BodyEnds t (Ok e)) where
  pub least : e + 8 ≡ length t
  least = b.end

  pub whole : (r : Result Checked Fault) → Checks (walk 65 Top (part t 0 e)) r → Checks (body_of t) r
  unfolding body_of
  whole r c = let h = least in let n : e - 0 ≡ length t - 8 = omega arith in subst (λ (i : ℕ). Checks (walk 65 Top (take i t)) r) n c

  verdict-is : verdict t ≡ first (body_of t).1 (count_fault t)
  unfolding verdict
  verdict-is = rw (right t (misfit t) b.fault) refl

  -- the number of nodes, as the trailer has it
  abbrev claimed : ℕ
  claimed = le_number 4 (drop (e + 4) t)

  last : claimed ≡ le_number 4 (drop (length t - 4) t)
  last = let h = least in let n : e + 4 ≡ length t - 4 = omega arith in ap (λ (i : ℕ). le_number 4 (drop i t)) n

  pub refuse_inner : (f : Fault) → Checks (walk 65 Top (part t 0 e)) (Err f) → TapeChecks t (Err f)
  refuse_inner f c =
      let w = whole (Err f) c in
      record { fault = sym (verdict-is ∙ ap (λ (i : ℕ). first i (count_fault t)) (sym w.fault) ∙ first_inner (fault_number f) (count_fault t) (fault_some f)); counts = tt }

  module _ (x : Checked) (c : Checks (walk 65 Top (part t 0 e)) (Ok x)) where
    counted : verdict t ≡ if (eqb claimed x.count) 0 2
    unfolding count_fault
    counted =
        let w = whole (Ok x) c in
        verdict-is
        ∙ ap (λ (i : ℕ). first i (count_fault t)) (sym w.fault)
        ∙ ap (λ (i : ℕ). if (eqb i (size (body_of t).0)) 0 2) (sym last)
        ∙ ap (λ (i : ℕ). if (eqb claimed i) 0 2) (sym w.counts.count)

    pub refuse_count : (claimed ≡ x.count → ⊥) → TapeChecks t (Err F.BadNode)
    refuse_count n = record { fault = sym (counted ∙ rw (ne_eqb _ _ n) refl); counts = tt }

    pub accept : claimed ≡ x.count → TapeChecks t (Ok x)
    accept n = record { fault = sym (counted ∙ rw (eq-eqb _ _ n) refl); counts = (whole (Ok x) c).counts }
