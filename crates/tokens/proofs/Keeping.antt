-- Laws of `Kept`: what is written at p keeps the bytes before p. Assumes nothing.
use Prim.Native.Nat.{ℕ, suc, ◌≤◌, min}
use mathlib.Core.Path.{◌≡◌, refl, sym, ap, ◌∙◌}
use mathlib.Core.List.{List, [], ◌∷◌}
use native.Mathlib.Decide.{dec_le}
use native.Mathlib.Omega.{arith}
use lib.ListN.{length, take, set}
use lib.Seq.{sets, take_all, take-set-le, take-take}
use Rattle.output.specs.Wrote.{Wrote}
use Rattle.output.proofs.Laws.{wrote-length}
use Rattle.tokens.specs.Steps.{Kept}

take-sets : (n : ℕ) (s l : List ℕ) (i : ℕ) → n ≤ i → take n (sets l i s) ≡ take n l
take-sets n [] l i h = refl
take-sets n (x ∷ s) l i h = take-sets n s (set l i x) (suc i) (omega arith) ∙ take-set-le n l i x h

pub kept_all : {p : ℕ} {a : List ℕ} → Kept p a a
kept_all = record { as_long = refl; as_before = refl }

pub kept_then : {p : ℕ} {a b c : List ℕ} → Kept p a b → Kept p b c → Kept p a c
kept_then g h = record { as_long = h.as_long ∙ g.as_long; as_before = h.as_before ∙ g.as_before }

-- What is kept before q is kept before p, if q is not before p, or not before the buffer's end: then nothing was written at all.
pub kept_before : {p q : ℕ} {a b : List ℕ} → min p (length a) ≤ q → Kept q a b → Kept p a b
kept_before {p} {q} {a} {b} l h = record { as_long = h.as_long; as_before = go (dec_le p q) }
  where
    go : Dec (p ≤ q) → take p b ≡ take p a
    go (yes g) = sym (take-take p q b g) ∙ ap (take p) h.as_before ∙ take-take p q a g
    go (no g) =
        let n = h.as_long in
        ap (take p) (sym (take_all q b (omega arith)) ∙ h.as_before ∙ take_all q a (omega arith))

pub wrote_kept : {a b : List ℕ} {p r : ℕ} {s : List ℕ} → Wrote a b p r s → Kept p a b
wrote_kept {a} {b} {p} {r} {s} w = record { as_long = wrote-length w; as_before = ap (take p) w.bytes ∙ take-sets p s a p (omega arith) }

-- a text was written at p, and then the buffer was kept before the place behind it
pub wrote_then_kept : {a b c : List ℕ} {p q : ℕ} {s : List ℕ} → Wrote a b p q s → Kept q b c → Kept p a c
wrote_then_kept w h =
    let n = wrote-length w in
    let q' = w.count in
    let r = w.room in
    kept_then (wrote_kept w) (kept_before (omega arith) h)
