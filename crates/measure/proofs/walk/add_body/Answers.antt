-- `walk::add_body` meets its contract: each of the four numbers is added to. Assumes nothing.
use Prim.Native.Nat.{ℕ, zero, suc, ◌+◌, ◌*◌, ◌<◌, ◌≤◌}
use mathlib.Core.Path.{◌≡◌, refl}
use mathlib.Core.List.{List, [], ◌∷◌}
use native.Mathlib.Nat.{add-zero}
use native.Mathlib.Omega.{arith}
use lib.ListN.{length, get_or, set}
use Rattle.tape.specs.declared.Frame.{Frame}
use Rattle.measure.specs.Sums.{separator_length}
use Rattle.measure.specs.Steps.{plus, last_separator, body_own}
use Rattle.measure.proofs.SumSteps.{last_some}
use Rattle.measure.proofs.walk.add_body.Goals as goal
use Rattle.measure.proofs.walk.add_body.Goals.{then-count-gt0, else-count-gt0}

-- ---- four numbers that are added to one after the other

abbrev first : List ℕ → ℕ → List ℕ
first s n = set s 0 (get_or s 0 0 + n)

abbrev second : List ℕ → ℕ → ℕ → List ℕ
second s n m = set (first s n) 1 (get_or (first s n) 1 0 + m)

abbrev third : List ℕ → ℕ → ℕ → ℕ → List ℕ
third s n m g = set (second s n m) 2 (get_or (second s n m) 2 0 + g)

first_next : (s : List ℕ) (n : ℕ) → get_or (first s n) 1 0 ≡ get_or s 1 0
first_next [] n = refl
first_next (a ∷ s) n = refl

second-next : (s : List ℕ) (n m : ℕ) → get_or (second s n m) 2 0 ≡ get_or s 2 0
second-next [] n m = refl
second-next (a ∷ []) n m = refl
second-next (a ∷ b ∷ s) n m = refl

of_four : (P : List ℕ → Type 0) → ((a b c d : ℕ) → P (a ∷ b ∷ c ∷ d ∷ [])) → (s : List ℕ) → length s ≡ 4 → P s
of_four P p [] l = absurd (omega arith)
of_four P p (a ∷ []) l = absurd (omega arith)
of_four P p (a ∷ b ∷ []) l = absurd (omega arith)
of_four P p (a ∷ b ∷ c ∷ []) l = absurd (omega arith)
of_four P p (a ∷ b ∷ c ∷ d ∷ []) l = p a b c d
of_four P p (a ∷ b ∷ c ∷ d ∷ e ∷ s) l = absurd (omega arith)

-- before the last number is added to: the third is v
record Three (s : List ℕ) (n m v : ℕ) (x : List ℕ) : Type 0 where
  last : get_or x 3 0 ≡ get_or s 3 0
  all : (d : ℕ) → set x 3 (get_or x 3 0 + d) ≡ (get_or s 0 0 + n) ∷ (get_or s 1 0 + m) ∷ v ∷ (get_or s 3 0 + d) ∷ []

module _ (s : List ℕ) (l : length s ≡ 4) (n m : ℕ) where
  three : (g : ℕ) → Three s n m (get_or s 2 0 + g) (third s n m g)
  three g = of_four (λ s. Three s n m (get_or s 2 0 + g) (third s n m g)) (λ a b c d. record { last = refl; all = λ d. refl }) s l

  two : Three s n m (get_or s 2 0) (second s n m)
  two = of_four (λ s. Three s n m (get_or s 2 0) (second s n m)) (λ a b c d. record { last = refl; all = λ d. refl }) s l

none : (c : ℕ) (k : Frame) → c ≤ 0 → last_separator c k ≡ 0
none zero k h = refl
none (suc c) k h = absurd (omega arith)

module _ (s : List ℕ) (l : length s ≡ 4) (n c : ℕ) (k : Frame) (g : ℕ) (e : g ≡ separator_length k) (x : List ℕ) where
  -- the third number is added to where there is a child
  with_last : 0 < c → x ≡ third s n (c * g) g → Three s n (c * separator_length k) (get_or s 2 0 + last_separator c k) x
  with_last h q = rw (q, e, last_some c k h) (three s l n (c * separator_length k) (separator_length k))

  with_none : c ≤ 0 → x ≡ second s n (c * g) → Three s n (c * separator_length k) (get_or s 2 0 + last_separator c k) x
  with_none h q = rw (q, e, none c k h, add-zero (get_or s 2 0)) (two s l n (c * separator_length k))

pub overflow_add-sums : goal.overflow_add-sums
unfolding plus body_own
overflow_add-sums c = let t = c.requires.sums_fit.contents in record { fits = omega arith }

pub overflow_mul-sums : goal.overflow_mul-sums
unfolding plus body_own
overflow_mul-sums c =
    let t = c.requires.sums_fit.separators in let g = c.separator_length-g.ensures.0 in rw g (record { fits = omega arith })

pub overflow_add-sums-2 : goal.overflow_add-sums-2
unfolding plus body_own
overflow_add-sums-2 c =
    let t = c.requires.sums_fit.separators in
    let g = c.separator_length-g.ensures.0 in
    rw (g, first_next c.args.sums.now c.args.n) (record { fits = omega arith })

pub overflow_add-sums-then-count-gt0 : goal.overflow_add-sums-then-count-gt0
unfolding plus body_own
overflow_add-sums-then-count-gt0 c =
    let t = c.requires.sums_fit.lasts in
    let g = c.separator_length-g.ensures.0 in
    let e = second-next c.args.sums.now c.args.n (c.args.count * c.separator_length-g.result) in
    let h = last_some c.args.count c.args.frame c.if-count-gt0.true in
    rw e (record { fits = omega arith })

pub overflow_mul-sums-2 : goal.overflow_mul-sums-2
unfolding plus body_own
overflow_mul-sums-2 c = let t = c.requires.sums_fit.indents in record { fits = omega arith }

pub overflow_add-sums-3 : goal.overflow_add-sums-3
unfolding plus body_own
overflow_add-sums-3 c =
    let a = c.args in
    let s = a.sums.now in
    let g = c.separator_length-g in
    let j : Three s a.n (a.count * separator_length a.frame) (get_or s 2 0 + last_separator a.count a.frame) c.if-count-gt0.sums =
    elim c.if-count-gt0.branch [
      | then-count-gt0 w ↦ with_last s c.requires.sums_len a.n a.count a.frame g.result g.ensures.0 _ w.if-count-gt0.true w.sums-is
      | else-count-gt0 w ↦ with_none s c.requires.sums_len a.n a.count a.frame g.result g.ensures.0 _ w.if-count-gt0.false w.sums-is
    ] in
    let t = c.requires.sums_fit.indents in
    let e = j.last in
    record { fits = omega arith }

pub returns : goal.returns
unfolding plus body_own
returns c =
    let a = c.args in
    let s = a.sums.now in
    let g = c.separator_length-g in
    let j : Three s a.n (a.count * separator_length a.frame) (get_or s 2 0 + last_separator a.count a.frame) c.if-count-gt0.sums =
    elim c.if-count-gt0.branch [
      | then-count-gt0 w ↦ with_last s c.requires.sums_len a.n a.count a.frame g.result g.ensures.0 _ w.if-count-gt0.true w.sums-is
      | else-count-gt0 w ↦ with_none s c.requires.sums_len a.n a.count a.frame g.result g.ensures.0 _ w.if-count-gt0.false w.sums-is
    ] in
    j.all _
