-- The refusals of a tape, and what the public writer answers and leaves. Assumes nothing.
use Prim.Native.Nat.{ℕ, zero, suc, ◌-◌, ◌<◌, ◌≤◌}
use mathlib.Core.Path.{◌≡◌, refl, ap, subst, ◌∙◌}
use mathlib.Core.List.{List}
use mathlib.Core.Bool.{Bool, true, false}
use native.Mathlib.Omega.{arith}
use lib.ListN.{length}
use borrow.Author.Tests.{lt-ltb, le-ltb, le-leb, lt-leb, ne_eqb}
use Rattle.output.specs.Logic.{if}
use Rattle.output.specs.Wrote.{Wrote}
use Rattle.output.proofs.Laws.{sets-front}
use Rattle.tape.specs.Bytes.{part, first}
use Rattle.tape.specs.Tape.{walk, body_of, nodes_of}
use Rattle.tape.specs.Verdict.{verdict}
use Rattle.tape.specs.Refusal.{noteds}
use Rattle.tape.specs.Answer.{Outcome, counted, refused}
use Rattle.tape.specs.declared.Frame.TheVariants.{Top}
use Rattle.tape.proofs.CodeFacts.{first_inner}
use Rattle.tape.proofs.Verdicts.{nodes_walked}
use Rattle.writer.specs.Text.{stream_text}
use Rattle.writer.specs.Steps.{items}
use Rattle.writer.specs.Outcome.{laid, refusal, measured, answered, left, streamed_with, leaves_with}
use Rattle.writer.proofs.Items.{items_texts}

-- ---- the refusal that comes before measuring

module _ (y : ℕ) (t : List ℕ) where
  pub layout_bad : 2 < y → refusal y t ≡ 7
  unfolding refusal
  layout_bad h = rw (lt-ltb _ _ h)

  module _ (h : y ≤ 2) where
    layout_ok : refusal y t ≡ first (verdict t) (if (noteds (nodes_of t)) 5 0)
    unfolding refusal
    layout_ok = rw (le-ltb _ _ h)

    pub tape_bad : (verdict t ≡ 0 → ⊥) → refusal y t ≡ verdict t
    tape_bad nz = layout_ok ∙ first_inner _ _ nz

    pub tape-noted : verdict t ≡ 0 → noteds (body_of t).0 ≡ true → refusal y t ≡ 5
    unfolding nodes_of
    tape-noted z e = layout_ok ∙ ap (λ (b : Bool). first (verdict t) (if b 5 0)) e ∙ ap (λ (i : ℕ). first i 5) z

    pub tape_good : verdict t ≡ 0 → noteds (body_of t).0 ≡ false → refusal y t ≡ 0
    unfolding nodes_of
    tape_good z e = layout_ok ∙ ap (λ (b : Bool). first (verdict t) (if b 5 0)) e ∙ ap (λ (i : ℕ). first i 0) z

-- ---- answers and buffers, of any text

-- a refusal before measuring leaves the buffer as it is
module _ (f : ℕ) (nz : f ≡ 0 → ⊥) where
  pub answered-refused : (o : Outcome) → refused f ≡ answered f o
  answered-refused o = go f nz
    where
      go : (f : ℕ) → (f ≡ 0 → ⊥) → refused f ≡ answered f o
      go zero nz = absurd (nz refl)
      go (suc f) nz = refl

  pub left_kept : (b' b : List ℕ) → b ≡ left f b' b
  left_kept b' b = go f nz
    where
      go : (f : ℕ) → (f ≡ 0 → ⊥) → b ≡ left f b' b
      go zero nz = absurd (nz refl)
      go (suc f) nz = refl

-- the text s is written at the start of the buffer b, which becomes b'; r counts its bytes
module _ {s b b' : List ℕ} {r : ℕ} (w : Wrote b b' 0 r s) where
  pub wrote_laid : b' ≡ laid s b
  unfolding laid
  wrote_laid = w.bytes ∙ sets-front b s

  pub wrote_counted : r ≤ length b → counted r ≡ measured s (length b)
  unfolding measured
  wrote_counted h =
      let c = w.count in
      let m = w.room in
      let n : r ≡ length s = omega arith in
      rw (le-leb (length s) (length b) (omega arith)) (ap counted n)

  pub wrote_clipped : length b < r → refused 6 ≡ measured s (length b)
  unfolding measured
  wrote_clipped h =
      let c = w.count in
      let m = w.room in
      rw (lt-leb (length s) (length b) (omega arith))

-- ---- of a streaming text

module _ (quoted : Bool) (y : ℕ) (t : List ℕ) (f : ℕ) (nz : f ≡ 0 → ⊥) (e : refusal y t ≡ f) where
  pub refused-by : (n : ℕ) → refused f ≡ streamed_with quoted y t n
  unfolding streamed_with
  refused-by n = rw e (answered-refused f nz _)

  pub kept_by : (b : List ℕ) → b ≡ leaves_with quoted y t b
  unfolding leaves_with
  kept_by b = rw e (left_kept f nz _ b)

module _ (quoted : Bool) (y : ℕ) (t b b' : List ℕ) (r : ℕ) (l : y ≤ 2) (e : refusal y t ≡ 0) (w : Wrote b b' 0 r (items quoted y Top 0 (walk 65 Top (part t 0 (length t - 8))).0)) where
  stream : Wrote b b' 0 r (stream_text quoted y (nodes_of t))
  unfolding stream_text
  stream = subst (Wrote b b' 0 r) (ap (items quoted y Top 0) (nodes_walked t) ∙ items_texts quoted y (ne_eqb y 3 (λ q. omega arith)) Top 0 (nodes_of t)) w

  pub laid_by : b' ≡ leaves_with quoted y t b
  unfolding leaves_with
  laid_by = rw e (wrote_laid stream)

  pub counted_by : r ≤ length b → counted r ≡ streamed_with quoted y t (length b)
  unfolding streamed_with
  counted_by h = rw e (wrote_counted stream h)

  pub clipped_by : length b < r → refused 6 ≡ streamed_with quoted y t (length b)
  unfolding streamed_with
  clipped_by h = rw e (wrote_clipped stream h)
