-- What measure_tape and text_length_with answer. Assumes nothing.
use Prim.Native.Nat.{ℕ, ◌+◌, ◌≤◌, ◌<◌}
use mathlib.Core.Path.{◌≡◌, refl, ap}
use mathlib.Core.List.{List}
use mathlib.Core.Bool.{Bool, true, false}
use native.Mathlib.Omega.{arith}
use lib.Dec.{eqb, ltb}
use lib.ListN.{length, get_or, replicate}
use borrow.Author.Tests.{eq-eqb, ne_eqb}
use Rattle.output.specs.Logic.{if}
use Rattle.output.specs.Wrote.{limit}
use Rattle.tape.specs.Bytes.{first}
use Rattle.tape.specs.Tape.{Walked, body_of, nodes_of}
use Rattle.tape.specs.Fine.{Bytes}
use Rattle.tape.specs.Verdict.{verdict}
use Rattle.tape.specs.Refusal.{noteds, numbereds}
use Rattle.tape.specs.Answer.{counted, refused}
use Rattle.std.specs.Prelude.{Ok}
use Rattle.tape.specs.CheckSteps.{Checks}
use Rattle.tape.specs.declared.Frame.TheVariants.{Top}
use Rattle.tape.proofs.Walking.{first-zero, verdict-told}
use Rattle.writer.specs.Text.{stream_text}
use Rattle.writer.specs.Outcome.{refusal}
use Rattle.writer.proofs.Verdicts.{answered-refused}
use Rattle.measure.specs.Sums.{contents, separators, lasts, indents, summed}
use Rattle.measure.specs.Steps.{flagged, met}
use Rattle.measure.specs.Outcome.{text_length_with}
use Rattle.measure.proofs.TextSums.{stream_sums, lasts_most}
use Rattle.measure.proofs.Bound.{tape_most, tape_indents}

-- ---- what the walk has met, as validation says it

flag_back : (b : Bool) → eqb (flagged 0 b) 1 ≡ b
flag_back true = refl
flag_back false = refl

-- of the nodes w without a problem, seen was met
module _ (w : Walked) (z : 0 ≡ w.1) (seen : List ℕ) (e : seen ≡ met (replicate 3 0) w.0) where
  pub met_checks : Checks w (Ok (record { count = get_or seen 2 0; noted = eqb (get_or seen 0 0) 1; numbered = eqb (get_or seen 1 0) 1 }))
  unfolding met
  met_checks = record { fault = z; counts = rw e (record { count = refl; noted = flag_back (noteds w.0); numbered = flag_back (numbereds w.0) }) }

-- ---- the sums of a tape, from nothing on

-- the four sums of the tape t, and room for their own sum
pub record Summed (quoted : Bool) (t a : List ℕ) : Type 0 where
  pub contents : get_or a 0 0 ≡ contents quoted (nodes_of t)
  pub separators : get_or a 1 0 ≡ separators Top (nodes_of t)
  pub lasts : get_or a 2 0 ≡ lasts Top (nodes_of t)
  pub indents : get_or a 3 0 ≡ indents 0 (nodes_of t)
  pub room : get_or a 0 0 + get_or a 1 0 + get_or a 3 0 < limit
  pub fewer : get_or a 2 0 ≤ get_or a 1 0

pub sums-told : (quoted : Bool) (t : List ℕ) → Bytes t → verdict t ≡ 0 → (a : List ℕ) → a ≡ summed quoted Top 0 (nodes_of t) → Summed quoted t a
unfolding summed
sums-told quoted t b v a e =
    let c = ap (λ (l : List ℕ). get_or l 0 0) e in
    let g = ap (λ (l : List ℕ). get_or l 1 0) e in
    let l = ap (λ (l : List ℕ). get_or l 2 0) e in
    let i = ap (λ (l : List ℕ). get_or l 3 0) e in
    let most = (verdict-told t v).most in
    let p = tape_most quoted t b v in
    let q = tape_indents t b v in
    let r = lasts_most Top (nodes_of t) in
    record { contents = omega arith; separators = omega arith; lasts = omega arith; indents = omega arith; room = omega arith; fewer = omega arith }

-- ---- answers

pub refused-by : (quoted : Bool) (y : ℕ) (t : List ℕ) (f : ℕ) → (f ≡ 0 → ⊥) → refusal y t ≡ f → refused f ≡ text_length_with quoted y t
unfolding text_length_with
refused-by quoted y t f nz e = rw e (answered-refused f nz _)

module _ (quoted : Bool) (y : ℕ) (t a : List ℕ) (e : refusal y t ≡ 0) (z : noteds (body_of t).0 ≡ false) (s : Summed quoted t a) where
  pub counted_plain : (y ≡ 2 → ⊥) → counted (get_or a 0 0 + get_or a 1 0) ≡ text_length_with quoted y t
  unfolding text_length_with nodes_of
  counted_plain q =
      let p : length (stream_text quoted y (nodes_of t)) ≡ contents quoted (nodes_of t) + separators Top (nodes_of t) + 0 = rw (ne_eqb _ _ q) at (stream_sums quoted y (nodes_of t) z) in
      let c = s.contents in
      let g = s.separators in
      let l : get_or a 0 0 + get_or a 1 0 ≡ length (stream_text quoted y (nodes_of t)) = omega arith in
      rw e (ap counted l)

  pub counted_pretty : y ≡ 2 → counted (get_or a 0 0 + get_or a 1 0 + get_or a 3 0) ≡ text_length_with quoted y t
  unfolding text_length_with nodes_of
  counted_pretty q =
      let p : length (stream_text quoted y (nodes_of t)) ≡ contents quoted (nodes_of t) + separators Top (nodes_of t) + indents 0 (nodes_of t) = rw (eq-eqb _ _ q) at (stream_sums quoted y (nodes_of t) z) in
      let c = s.contents in
      let g = s.separators in
      let i = s.indents in
      let l : get_or a 0 0 + get_or a 1 0 + get_or a 3 0 ≡ length (stream_text quoted y (nodes_of t)) = omega arith in
      rw e (ap counted l)

-- ---- how long a text that is told is at most, in every layout

-- nothing is wrong with a tape that is not refused
unrefused : (y : ℕ) (t : List ℕ) → refusal y t ≡ 0 → (verdict t ≡ 0) × (noteds (nodes_of t) ≡ false)
unfolding refusal
unrefused y t e = go (ltb 2 y) (noteds (nodes_of t)) e
  where
    go : (a b : Bool) → if a 7 (first (verdict t) (if b 5 0)) ≡ 0 → (verdict t ≡ 0) × (b ≡ false)
    go true b e = absurd (omega arith)
    go false true e = let z = (first-zero (verdict t) 5 e).1 in absurd (omega arith)
    go false false e = ((first-zero (verdict t) 0 e).0, refl)

pub length-small : (quoted : Bool) (y : ℕ) (t : List ℕ) → Bytes t → refusal y t ≡ 0 → length (stream_text quoted y (nodes_of t)) < limit
length-small quoted y t b e =
    let u = unrefused y t e in
    let most = (verdict-told t u.0).most in
    let p = tape_most quoted t b u.0 in
    let q = tape_indents t b u.0 in
    let s = stream_sums quoted y (nodes_of t) u.1 in
    let i = some_indents (eqb y 2) in
    omega arith
  where
    some_indents : (b : Bool) → if b (indents 0 (nodes_of t)) 0 ≤ indents 0 (nodes_of t)
    some_indents true = omega arith
    some_indents false = omega arith
