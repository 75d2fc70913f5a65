-- Laws of floats: the token by its first byte, the text by its whole number, how long it is, and what the code needs. Assumes nothing.
use mathlib.Core.Path.{◌≡◌, refl, sym, ap, ◌∙◌}
use mathlib.Core.Bool.{Bool, true, false, not}
use mathlib.Core.List.{List, [], ◌∷◌, ◌++◌}
use mathlib.Core.Option.{Option, none, some}
use Prim.Native.Nat.{ℕ, suc, ◌+◌, ◌-◌, ◌^◌, ◌≤◌, ◌<◌}
use native.Mathlib.Omega.{arith}
use lib.Dec.{T, leb, eqb}
use lib.ListN.{length, take, drop, get_or, length-append}
use lib.Ieee.{Float, nan, inf, fin, binary64, is_nan, of_bits, to_bits}
use lib.Ieee.Bits.{to_bits-of_bits}
use borrow.Author.Tests.{le-leb, eqb-true, eqb-false, ne_eqb}
use Rattle.output.specs.Logic.{if, then, or, byte, ascii}
use Rattle.text_rules.specs.Digits.{is_digit}
use Rattle.text_rules.specs.Texts.{strip, same}
use Rattle.text_rules.specs.Words.{is_part, word}
use Rattle.text_rules.specs.WordSteps.{Spanned, WordStands}
use Rattle.text_rules.specs.Reading.{Reads}
use Rattle.text_rules.proofs.Places.{byte_at}
use Rattle.text_rules.proofs.DigitLaws.{digit_range}
use Rattle.text_rules.proofs.WordsLaws.{same-is, spanned_long}
use Rattle.numbers.specs.Decimal.{sign}
use Rattle.floats.specs.Whole.{most_whole, whole_text, whole_number}
use Rattle.floats.specs.Value.{whole_of, up_to, magnitude, is_negative, whole_float}
use Rattle.floats.specs.Float.{signed_text, float_text, nan_word, spelled, signed_whole, float}
use Rattle.floats.proofs.WholeLaws.{whole_below, whole_above}
use Rattle.floats.proofs.WholeBytes.{whole-length_most}
use Rattle.floats.proofs.WholeOnce.{whole_once}
use Rattle.floats.proofs.ValueLaws.{nothing, whole-negative, whole-magnitude, magnitude_most, bits_back}
use Rattle.floats.proofs.ValueBits.{pattern}

-- ---- the token, by its first byte

or_none : {A : Type 0} (o : Option A) → or o none ≡ o
or_none none = refl
or_none (some a) = refl

pub signed-none : (s : Bool) (t : List ℕ) → whole_number t ≡ none → signed_whole s t ≡ none
unfolding signed_whole
signed-none s t e = rw e

module _ (c : ℕ) (t : List ℕ) where
  no_nan-word : (c ≡ byte "n" → ⊥) → nan_word (c ∷ t) ≡ none
  no_nan-word n = go (is_part c) refl
    where
      go : (b : Bool) → is_part c ≡ b → nan_word (c ∷ t) ≡ none
      go true e = unfold nan_word word same strip in rw (e, ne_eqb c (byte "n") n)
      go false e = unfold nan_word word same strip in rw e

  no_spelling : (d : ℕ) (w : List ℕ) (s : Bool) → (c ≡ d → ⊥) → spelled (d ∷ w) s (c ∷ t) ≡ none
  unfolding spelled strip
  no_spelling d w s n = rw (ne_eqb c d n)

  no_minus : (c ≡ byte "-" → ⊥) → then (strip (ascii "-") (c ∷ t)) (signed_whole true) ≡ none
  unfolding strip
  no_minus n = rw (ne_eqb c (byte "-") n)

pub float-nothing : float [] ≡ none
unfolding float nan_word word same spelled strip signed_whole whole_number
float-nothing = refl

pub float-digit : (c : ℕ) (t : List ℕ) → is_digit c ≡ true → float (c ∷ t) ≡ signed_whole false (c ∷ t)
unfolding float
float-digit c t d =
    let g = digit_range c d in
    rw (
      no_nan-word c t (λ e. omega arith),
      no_spelling c t (byte "+") (ascii "inf") false (λ e. omega arith),
      no_spelling c t (byte "-") (ascii "inf") true (λ e. omega arith),
      no_minus c t (λ e. omega arith),
    )
    (or_none (signed_whole false (c ∷ t)))

pub float-minus : (t : List ℕ) → float (byte "-" ∷ t) ≡ or (spelled (ascii "-inf") true (byte "-" ∷ t)) (signed_whole true t)
unfolding float strip
float-minus t =
    rw (
      no_nan-word (byte "-") t (λ e. omega arith),
      no_spelling (byte "-") t (byte "+") (ascii "inf") false (λ e. omega arith),
      signed-none false (byte "-" ∷ t) (whole_below (byte "-") t (omega arith)),
    )

pub float-plus : (t : List ℕ) → float (byte "+" ∷ t) ≡ spelled (ascii "+inf") false (byte "+" ∷ t)
unfolding float
float-plus t =
    rw (
      no_nan-word (byte "+") t (λ e. omega arith),
      no_spelling (byte "+") t (byte "-") (ascii "inf") true (λ e. omega arith),
      signed-none false (byte "+" ∷ t) (whole_below (byte "+") t (omega arith)),
      no_minus (byte "+") t (λ e. omega arith),
    )
    (or_none (spelled (ascii "+inf") false (byte "+" ∷ t)))

pub float-above : (c : ℕ) (t : List ℕ) → 57 < c → float (c ∷ t) ≡ nan_word (c ∷ t)
unfolding float
float-above c t h =
    rw (
      no_spelling c t (byte "+") (ascii "inf") false (λ e. omega arith),
      no_spelling c t (byte "-") (ascii "inf") true (λ e. omega arith),
      signed-none false (c ∷ t) (whole_above c t h),
      no_minus c t (λ e. omega arith),
    )
    (or_none (nan_word (c ∷ t)))

pub float_below : (c : ℕ) (t : List ℕ) → c < 48 → (c ≡ byte "-" → ⊥) → (c ≡ byte "+" → ⊥) → float (c ∷ t) ≡ none
unfolding float
float_below c t h m p =
    rw (
      no_nan-word c t (λ e. omega arith),
      no_spelling c t (byte "+") (ascii "inf") false p,
      no_spelling c t (byte "-") (ascii "inf") true m,
      signed-none false (c ∷ t) (whole_below c t h),
      no_minus c t m,
    )

-- ---- the text

-- of a float that is a whole number
pub whole-float_text : (x : Float) (n : ℕ) → magnitude x ≡ some n → float_text x ≡ sign (is_negative x) ++ whole_text n
unfolding float_text signed_text is_negative
whole-float_text nan n e = absurd (nothing n (unfold magnitude whole_of up_to in e))
whole-float_text (inf s) n e = absurd (nothing n (unfold magnitude whole_of up_to in e))
whole-float_text (fin s m d) n e = rw e

pub float_most : (x : Float) → length (float_text x) ≤ 21
unfolding float_text
float_most nan = omega arith
float_most (inf true) = omega arith
float_most (inf false) = omega arith
float_most (fin s m d) = go (magnitude (fin s m d)) refl
  where
    signed : (s : Bool) → length (sign s) ≤ 1
    signed true = unfold sign in omega arith
    signed false = unfold sign in omega arith

    go : (o : Option ℕ) → magnitude (fin s m d) ≡ o → length (signed_text s o) ≤ 21
    go none e = unfold signed_text in omega arith
    go (some n) e =
        let l = whole-length_most n (magnitude_most (fin s m d) n e) in
        let g = signed s in
        unfold signed_text in rw (length-append (sign s) (whole_text n)) (omega arith)

-- ---- the text, by the bits

pub whole-text : (s : Bool) (n : ℕ) → n ≤ most_whole → float_text (whole_float s n) ≡ sign s ++ whole_text n
whole-text s n h = whole-float_text (whole_float s n) n (whole-magnitude s n h) ∙ ap (λ (b : Bool). sign b ++ whole_text n) (whole-negative s n)

pub bits_text : (b n : ℕ) → b < 2 ^ 64 → magnitude (of_bits binary64 b) ≡ some n → float_text (of_bits binary64 b) ≡ sign (leb 0x8000_0000_0000_0000 b) ++ whole_text n
bits_text b n h e =
    let s = leb 0x8000_0000_0000_0000 b in
    let m = magnitude_most (of_bits binary64 b) n e in
    ap float_text (ap (of_bits binary64) (pattern b n h e) ∙ bits_back s n m) ∙ whole-text s n m

-- a pattern that is no NaN's, no infinity's and no whole number's
pub no_text : (b : ℕ) → b < 2 ^ 64 → T (not (is_nan (of_bits binary64 b))) → magnitude (of_bits binary64 b) ≡ none → (b ≡ 0x7FF0_0000_0000_0000 → ⊥) → (b ≡ 0xFFF0_0000_0000_0000 → ⊥)
    → float_text (of_bits binary64 b) ≡ []
no_text b h t e p m = go (of_bits binary64 b) t e (to_bits-of_bits binary64 b h t)
  where
    go : (x : Float) → T (not (is_nan x)) → magnitude x ≡ none → to_bits binary64 x ≡ b → float_text x ≡ []
    go nan t e i = absurd (unfold is_nan in t)
    go (inf true) t e i = absurd (m (sym (unfold to_bits in i)))
    go (inf false) t e i = absurd (p (sym (unfold to_bits in i)))
    go (fin s k d) t e i = unfold float_text signed_text in rw e

-- ---- the token, as the code reads it

-- the code makes the float of its bits b
pub signed-some : (s : Bool) {text : List ℕ} {at n end : ℕ} (b : ℕ) → Reads text (suc at) (whole_number (drop at text)) (some (n, end)) → b ≡ to_bits binary64 (whole_float s n)
    → Reads text (suc at) (signed_whole s (drop at text)) (some (of_bits binary64 b, end))
unfolding signed_whole
signed-some s {text} {at} {n} {end} b v e =
    let m : n ≤ most_whole = (whole_once (drop at text) n (drop end text) v.is).1 in
    record { is = rw v.is (ap (λ (x : Float). some (x, drop end text)) (sym (ap (of_bits binary64) e ∙ bits_back s n m))); place = v.place }

module _ {text : List ℕ} {at e : ℕ} (s : Spanned text at e) (b : Bool) (h : b ≡ same (ascii "nan") (take (e - at) (drop at text))) where
  nan_at : nan_word (drop at text) ≡ if b (some (nan, drop e text)) none
  unfolding nan_word
  nan_at = rw (← s.bytes, ← h, ← s.rest)

  pub nan_here : b ≡ true → Reads text (suc at) (nan_word (drop at text)) (some (nan, e))
  nan_here i =
      let m : length (take (e - at) (drop at text)) ≡ 3 = ap length (same-is (ascii "nan") (take (e - at) (drop at text)) (sym h ∙ i)) in
      record { is = nan_at ∙ rw i; place = (omega (arith, m, spanned_long s), s.inside) }

  pub nan-other : b ≡ false → nan_word (drop at text) ≡ none
  nan-other i = nan_at ∙ rw i

module _ (text : List ℕ) (at : ℕ) (l : at < length text) where
  abbrev c : ℕ
  c = get_or text at 0

  abbrev t : List ℕ
  t = drop (at + 1) text

  pub at_above : 57 < c → float (drop at text) ≡ nan_word (drop at text)
  at_above h = rw (byte_at text at l) (float-above c t h)

  pub at-digit : 48 ≤ c → c ≤ 57 → float (drop at text) ≡ signed_whole false (drop at text)
  at-digit h g = rw (byte_at text at l) (float-digit c t (unfold is_digit in rw (le-leb 48 c h, le-leb c 57 g)))

  pub at-minus : c ≡ byte "-" → float (drop at text) ≡ or (spelled (ascii "-inf") true (drop at text)) (signed_whole true t)
  at-minus e = rw (byte_at text at l, e) (float-minus t)

  pub at_other : c < 48 → (c ≡ byte "-" → ⊥) → float (drop at text) ≡ spelled (ascii "+inf") false (drop at text)
  at_other h m = rw (byte_at text at l) (go (eqb c (byte "+")) refl)
    where
      go : (b : Bool) → eqb c (byte "+") ≡ b → float (c ∷ t) ≡ spelled (ascii "+inf") false (c ∷ t)
      go true e = rw (eqb-true c (byte "+") e) (float-plus t)
      go false e = let n = eqb-false c (byte "+") e in float_below c t h m n ∙ sym (no_spelling c t (byte "+") (ascii "inf") false n)

pub spelled_here : {text : List ℕ} {at : ℕ} {w : List ℕ} (s : Bool) → WordStands text at w true → spelled w s (drop at text) ≡ some (inf s, drop (at + length w) text)
unfolding spelled
spelled_here s v = rw v.is

pub spelled-other : {text : List ℕ} {at : ℕ} {w : List ℕ} (s : Bool) → WordStands text at w false → spelled w s (drop at text) ≡ none
unfolding spelled
spelled-other s v = rw v.is
