-- What is read was written so: each float has one text, fits in 64 bits, and is a whole number if it is finite. Assumes nothing.
use mathlib.Core.Path.{◌≡◌, refl, sym, ap, subst, ◌∙◌}
use mathlib.Core.Bool.{Bool, true, false}
use mathlib.Core.List.{List, [], ◌∷◌, ◌++◌, append_assoc}
use mathlib.Core.Option.{Option, none, some}
use Prim.Native.Nat.{ℕ}
use lib.Dec.{T, eqb}
use lib.IntN.{ℤ}
use lib.Ieee.{Float, nan, inf, fin, binary64, fits}
use borrow.Author.Tests.{eqb-true}
use Rattle.output.specs.Logic.{if, then, on, or, ascii}
use Rattle.text_rules.specs.Texts.{strip, same}
use Rattle.text_rules.specs.Words.{is_part, word, behind_word}
use Rattle.text_rules.proofs.WordsLaws.{same-is}
use Rattle.numbers.specs.Decimal.{sign}
use Rattle.floats.specs.Whole.{whole_text, ReadWhole, whole_number}
use Rattle.floats.specs.Value.{is_whole, whole_float}
use Rattle.floats.specs.Float.{float_text, nan_word, spelled, signed_whole, float}
use Rattle.floats.proofs.WholeOnce.{none-some, if_some, whole_once}
use Rattle.floats.proofs.ValueLaws.{whole-fits, whole_is}
use Rattle.floats.proofs.FloatLaws.{whole-text}

-- ---- what was read

abbrev ReadFloat : Type 0
ReadFloat = Option (Float × List ℕ)

-- a finite float is a whole number
abbrev Number : Float → Type 0
Number nan = Unit
Number (inf s) = Unit
Number (fin s m e) = is_whole (fin s m e) ≡ true

number_is : (x : Float) → is_whole x ≡ true → Number x
number_is nan h = tt
number_is (inf s) h = tt
number_is (fin s m e) h = h

record Taken (t : List ℕ) (x : Float) (r : List ℕ) : Type 0 where
  text : t ≡ float_text x ++ r
  bits : T (fits binary64 x)
  number : Number x

module _ (t : List ℕ) (x : Float) (r : List ℕ) where
  -- the answer is the one that was asked about
  told : (v : Float × List ℕ) → Taken t v.0 v.1 → ◌≡◌ {A = ReadFloat} (some v) (some (x, r)) → Taken t x r
  told v k h = subst (λ (u : Float × List ℕ). Taken t u.0 u.1) (ap (λ (o : ReadFloat). on o (λ u. u) v) h) k

  either : (a b : ReadFloat) → (a ≡ some (x, r) → Taken t x r) → (b ≡ some (x, r) → Taken t x r) → or a b ≡ some (x, r) → Taken t x r
  either none b f g h = g h
  either (some v) b f g h = f h

-- ---- nan

word_split : (t : List ℕ) → t ≡ word t ++ behind_word t
unfolding word behind_word
word_split [] = refl
word_split (c ∷ t) = go (is_part c) (word_split t)
  where
    go : (b : Bool) → t ≡ word t ++ behind_word t → c ∷ t ≡ if b (c ∷ word t) [] ++ if b (behind_word t) (c ∷ t)
    go true h = ap (λ (l : List ℕ). c ∷ l) h
    go false h = refl

nan-taken : (t : List ℕ) (x : Float) (r : List ℕ) → nan_word t ≡ some (x, r) → Taken t x r
unfolding nan_word float_text fits
nan-taken t x r h =
    let g = if_some (same (ascii "nan") (word t)) _ _ h in
    let e : t ≡ ascii "nan" ++ behind_word t = word_split t ∙ ap (λ (w : List ℕ). w ++ behind_word t) (same-is (ascii "nan") (word t) g.0) in
    told t x r (nan, behind_word t) record { text = e; bits = tt; number = tt } g.1

-- ---- the infinities

strip-split : (w t u : List ℕ) → strip w t ≡ some u → t ≡ w ++ u
unfolding strip
strip-split [] t u e = cc
strip-split (x ∷ w) [] u e = none-some e
strip-split (x ∷ w) (c ∷ t) u e = go (eqb c x) refl e (strip-split w t u)
  where
    go : (b : Bool) → eqb c x ≡ b → if b (strip w t) none ≡ some u → (strip w t ≡ some u → t ≡ w ++ u) → c ∷ t ≡ x ∷ (w ++ u)
    go true h e more = ap (λ (k : ℕ). k ∷ t) (eqb-true c x h) ∙ ap (λ (l : List ℕ). x ∷ l) (more e)
    go false h e more = none-some e

inf-taken : (s : Bool) (t : List ℕ) (x : Float) (r : List ℕ) → spelled (float_text (inf s)) s t ≡ some (x, r) → Taken t x r
unfolding spelled fits
inf-taken s t x r h = go (strip (float_text (inf s)) t) refl h
  where
    go : (o : Option (List ℕ)) → strip (float_text (inf s)) t ≡ o → then {B = Float × List ℕ} o (λ u. some (inf s, u)) ≡ some (x, r) → Taken t x r
    go none e h = none-some h
    go (some u) e h = told t x r (inf s, u) record { text = strip-split (float_text (inf s)) t u e; bits = tt; number = tt } h

-- ---- whole numbers

whole-taken : (s : Bool) (t : List ℕ) (n : ℕ) (r : List ℕ) → whole_number t ≡ some (n, r) → Taken (sign s ++ t) (whole_float s n) r
whole-taken s t n r e =
    let o = whole_once t n r e in
    record {
      text = ap (λ (l : List ℕ). sign s ++ l) o.0 ∙ sym (append_assoc (sign s) (whole_text n) r) ∙ ap (λ (l : List ℕ). l ++ r) (sym (whole-text s n o.1));
      bits = whole-fits s n o.1;
      number = number_is (whole_float s n) (whole_is s n o.1);
    }

signed-taken : (s : Bool) (t : List ℕ) (x : Float) (r : List ℕ) → signed_whole s t ≡ some (x, r) → Taken (sign s ++ t) x r
unfolding signed_whole
signed-taken s t x r h = go (whole_number t) refl h
  where
    go : (o : ReadWhole) → whole_number t ≡ o → then {B = Float × List ℕ} o (λ v. some (whole_float s v.0, v.1)) ≡ some (x, r) → Taken (sign s ++ t) x r
    go none e h = none-some h
    go (some v) e h = told (sign s ++ t) x r (whole_float s v.0, v.1) (whole-taken s t v.0 v.1 e) h

minus-taken : (t : List ℕ) (x : Float) (r : List ℕ) → then (strip (ascii "-") t) (signed_whole true) ≡ some (x, r) → Taken t x r
unfolding sign
minus-taken t x r h = go (strip (ascii "-") t) refl h
  where
    go : (o : Option (List ℕ)) → strip (ascii "-") t ≡ o → then o (signed_whole true) ≡ some (x, r) → Taken t x r
    go none e h = none-some h
    go (some u) e h = subst (λ (l : List ℕ). Taken l x r) (sym (strip-split (ascii "-") t u e)) (signed-taken true u x r h)

-- ---- the token

taken : (t : List ℕ) (x : Float) (r : List ℕ) → float t ≡ some (x, r) → Taken t x r
unfolding float float_text sign
taken t x r =
    either t x r _ _ (nan-taken t x r)
    (either t x r _ _ (inf-taken false t x r)
    (either t x r _ _ (inf-taken true t x r)
    (either t x r _ _ (signed-taken false t x r) (minus-taken t x r))))

-- a text that a float was read from is that float's text, and the rest
pub float_once : (t : List ℕ) (x : Float) (r : List ℕ) → float t ≡ some (x, r) → (t ≡ float_text x ++ r) × T (fits binary64 x)
float_once t x r h = let k = taken t x r h in (k.text, k.bits)

pub float-whole : (t : List ℕ) (s : Bool) (m : ℕ) (e : ℤ) (r : List ℕ) → float t ≡ some (fin s m e, r) → is_whole (fin s m e) ≡ true
float-whole t s m e r h = (taken t (fin s m e) r h).number
