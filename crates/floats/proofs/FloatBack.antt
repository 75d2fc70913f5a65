-- A float that has a text is read back from it, whatever stands behind it that ends a token. Assumes nothing.
use mathlib.Core.Path.{◌≡◌, refl, sym, ap, ◌∙◌}
use mathlib.Core.Bool.{Bool, true, false}
use mathlib.Core.List.{List, [], ◌∷◌, ◌++◌, append_assoc}
use mathlib.Core.Option.{Option, none, some}
use Prim.Native.Nat.{ℕ}
use native.Mathlib.Omega.{arith}
use lib.Dec.{T}
use lib.Ieee.{Float, nan, inf, fin, binary64, fits}
use borrow.Author.Tests.{ne_eqb}
use Rattle.output.specs.Logic.{if, or, byte, ascii}
use Rattle.text_rules.specs.Digits.{is_digit}
use Rattle.text_rules.specs.Texts.{strip, same, ended}
use Rattle.text_rules.specs.Words.{is_start, is_part, behind_word}
use Rattle.text_rules.proofs.DigitLaws.{digit_range}
use Rattle.text_rules.proofs.WordsBack.{stops, word_back, behind_back}
use Rattle.numbers.specs.Decimal.{sign}
use Rattle.floats.specs.Whole.{whole_text, whole_number}
use Rattle.floats.specs.Value.{magnitude, is_negative, whole_float}
use Rattle.floats.specs.Float.{signed_text, float_text, nan_word, spelled, signed_whole, float}
use Rattle.floats.proofs.WholeBack.{whole_back}
use Rattle.floats.proofs.WholeOnce.{none-some, if_some}
use Rattle.floats.proofs.ValueLaws.{magnitude_most, whole_float_lem}
use Rattle.floats.proofs.FloatLaws.{float-digit, float-minus, float-plus, whole-float_text}

-- ---- nan and the infinities

nan-word : behind_word (ascii "nan") ≡ []
unfolding behind_word is_part is_start
nan-word = refl

nan_back : (r : List ℕ) → ended r ≡ true → float (ascii "nan" ++ r) ≡ some (nan, r)
unfolding float nan_word
nan_back r e = let s = stops r e in rw (word_back (ascii "nan") r nan-word s, behind_back (ascii "nan") r nan-word s) (found _)
  where
    found : (o : Option (Float × List ℕ)) → or (if (same (ascii "nan") (ascii "nan")) (some (nan, r)) none) o ≡ some (nan, r)
    found o = unfold same strip in refl

inf_back : (s : Bool) (r : List ℕ) → float (float_text (inf s) ++ r) ≡ some (inf s, r)
unfolding float_text
inf_back true r = float-minus (ascii "inf" ++ r) ∙ unfold spelled strip in refl
inf_back false r = float-plus (ascii "inf" ++ r) ∙ unfold spelled strip in refl

-- ---- whole numbers

digit_back : (s : Bool) (c : ℕ) (t : List ℕ) (n : ℕ) (r : List ℕ) → is_digit c ≡ true → whole_number (c ∷ t) ≡ some (n, r) → float (sign s ++ (c ∷ t)) ≡ some (whole_float s n, r)
unfolding sign signed_whole
digit_back true c t n r d e =
    let g = digit_range c d in
    float-minus (c ∷ t) ∙ unfold spelled strip in rw (ne_eqb c (byte "i") (λ q. omega arith), e)
digit_back false c t n r d e = float-digit c t d ∙ rw e

-- a text that a whole number is read from starts with a digit
signed_back : (s : Bool) (t : List ℕ) (n : ℕ) (r : List ℕ) → whole_number t ≡ some (n, r) → float (sign s ++ t) ≡ some (whole_float s n, r)
unfolding whole_number
signed_back s [] n r e = none-some e
signed_back s (c ∷ t) n r e = digit_back s c t n r (if_some (is_digit c) _ _ e).0 e

-- ---- a float of 64 bits that has a text

pub float_back : (x : Float) (r : List ℕ) → T (fits binary64 x) → (float_text x ≡ [] → ⊥) → ended r ≡ true → float (float_text x ++ r) ≡ some (x, r)
float_back nan r h t e = unfold float_text in nan_back r e
float_back (inf s) r h t e = inf_back s r
float_back (fin s m d) r h t e = go (magnitude (fin s m d)) refl
  where
    go : (o : Option ℕ) → magnitude (fin s m d) ≡ o → float (float_text (fin s m d) ++ r) ≡ some (fin s m d, r)
    go none q = absurd (t (unfold float_text signed_text in rw q))
    go (some n) q =
        rw (whole-float_text (fin s m d) n q, append_assoc (sign (is_negative (fin s m d))) (whole_text n) r)
        (signed_back (is_negative (fin s m d)) (whole_text n ++ r) n r (whole_back n r (magnitude_most (fin s m d) n q) e) ∙ ap (λ (x : Float). some (x, r)) (sym (whole_float_lem (fin s m d) n h q)))
