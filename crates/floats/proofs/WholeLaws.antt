-- What the code of whole numbers needs. Assumes nothing.
use mathlib.Core.Path.{◌≡◌, refl, sym, ap, ◌∙◌}
use mathlib.Core.Bool.{Bool, true, false, ◌&&◌}
use mathlib.Core.List.{List, [], ◌∷◌, ◌++◌}
use mathlib.Core.Option.{none, some}
use Prim.Native.Nat.{ℕ, zero, suc, ◌+◌, ◌-◌, ◌*◌, ◌/◌, ◌%◌, ◌^◌, ◌≤◌, ◌<◌}
use native.Mathlib.Omega.{arith}
use lib.Dec.{eqb, leb}
use lib.ListN.{length, drop, get_or, length-append}
use borrow.Author.Tests.{le-leb, lt-leb, ne_eqb}
use Rattle.output.specs.Logic.{if, byte}
use Rattle.output.specs.Wrote.{le_bytes}
use Rattle.text_rules.specs.Digits.{digit, pad, count, digits, is_digit, run, behind_digits, number, whole as unpadded}
use Rattle.text_rules.specs.Texts.{starts}
use Rattle.text_rules.specs.Reading.{Reads}
use Rattle.text_rules.proofs.DigitLaws.{pad-first, last_one, length_digits}
use Rattle.text_rules.proofs.DigitWords.{shift, last_digits}
use Rattle.floats.specs.Whole.{most_whole, significant, point, powered, whole_text, ReadWhole, ranged, scaled, behind_e, behind_all, behind_first, whole_number}
use Rattle.floats.proofs.WholeDigits.{factor_below, neither, significant-shift}

-- ---- writing

-- k trailing zeros less
pub trim : (m q k : ℕ) → 0 < m → m < 2 ^ 64 → q * 10 ^ k ≡ m → (0 < q) × (significant (digits m) ≡ significant (digits q))
trim m zero k p h e = let bad : ⊥ = omega arith in absurd bad
trim m (suc q) k p h e = (omega arith, ap (λ (x : ℕ). significant (digits x)) (sym e) ∙ significant-shift (suc q) k (omega arith) (omega arith))

-- one digit has no point
pub point_one : (m : ℕ) → count 19 m ≡ 1 → point (digits m) ≡ digits m
unfolding digits pad point
point_one m h = rw h

-- more digits have one after the first
pub point_more : (m w : ℕ) → w ≡ count 19 m → 2 ≤ w → point (digits m) ≡ (48 + m / 10 ^ (w - 1) % 10) ∷ byte "." ∷ pad (w - 1) m
unfolding digits point
point_more m zero h l = let bad : ⊥ = omega arith in absurd bad
point_more m (suc zero) h l = let bad : ⊥ = omega arith in absurd bad
point_more m (suc (suc w)) h l =
    let k : suc (suc w) - 1 ≡ suc w = omega arith in
    rw (sym h, k, pad-first (suc w) m, pad-first w m)

-- of eight digits at most: those of the word v
pub point-word : (m v w : ℕ) → w ≡ count 19 m → 2 ≤ w → w ≤ 8 → le_bytes 8 v ≡ pad 8 m
    → point (digits m) ≡ v / 2 ^ (64 - 8 * w) % 256 ∷ byte "." ∷ le_bytes (w - 1) (v / 2 ^ (64 - 8 * w) / 256)
point-word m v w h l k e =
    let u = v / 2 ^ (64 - 8 * w) in
    let s : w ≡ suc (w - 1) = omega arith in
    let d : u % 256 ∷ le_bytes (w - 1) (u / 256) ≡ (48 + m / 10 ^ (w - 1) % 10) ∷ pad (w - 1) m = word_first u (w - 1) ∙ ap (λ (i : ℕ). le_bytes i u) (sym s) ∙ shift w v k ∙ last_digits w v m k e ∙ ap (λ (i : ℕ). pad i m) s ∙ pad-first (w - 1) m in
    point_more m w h l ∙ ap (λ (t : List ℕ). get_or t 0 0 ∷ byte "." ∷ drop 1 t) (sym d)
  where
    word_first : (u k : ℕ) → u % 256 ∷ le_bytes k (u / 256) ≡ le_bytes (suc k) u
    word_first u k = unfold le_bytes in refl

-- an exponent of one digit
pub digits_one : (e : ℕ) → e < 10 → digits e ≡ digit e ∷ []
unfolding digits pad
digits_one e h = let m : e % 10 ≡ e = omega arith in rw (last_one 19 e h, m)

pub text_zero : le_bytes 3 0x306530 ≡ whole_text 0
unfolding le_bytes whole_text
text_zero = refl

pub text_some : (n : ℕ) → 0 < n → whole_text n ≡ powered (digits n)
unfolding whole_text
text_some n p = rw (ne_eqb n 0 (λ (e : n ≡ 0). omega arith))

-- m is n without trailing zeros
module _ (n m : ℕ) (p : 0 < n) (h : significant (digits n) ≡ digits m) where
  pub text_parts : whole_text n ≡ point (digits m) ++ (byte "e" ∷ digits (count 19 n - 1))
  unfolding powered
  text_parts = text_some n p ∙ rw (h, length_digits n)

  parts_length : length (whole_text n) ≡ length (point (digits m)) + suc (count 19 (count 19 n - 1))
  parts_length = ap length text_parts ∙ length-append (point (digits m)) (byte "e" ∷ digits (count 19 n - 1)) ∙ ap (λ (k : ℕ). length (point (digits m)) + suc k) (length_digits (count 19 n - 1))

  pub length_one : count 19 m ≡ 1 → length (whole_text n) ≡ 2 + count 19 (count 19 n - 1)
  length_one e = parts_length ∙ rw (point_one m e, length_digits m, e) (omega arith)

  pub length_more : 2 ≤ count 19 m → length (whole_text n) ≡ count 19 m + 2 + count 19 (count 19 n - 1)
  length_more l = parts_length ∙ rw (pointed (digits m) (omega (arith, length_digits m)), length_digits m) (omega arith)
    where
      pointed : (s : List ℕ) → 2 ≤ length s → length (point s) ≡ suc (length s)
      pointed [] g = let bad : ⊥ = omega arith in absurd bad
      pointed (c ∷ []) g = let bad : ⊥ = omega arith in absurd bad
      pointed (c ∷ d ∷ s) g = unfold point in refl

-- ---- reading

either : (b : Bool) (o o' : ReadWhole) → o ≡ none → o' ≡ none → if b o o' ≡ none
either true o o' h g = h
either false o o' h g = g

ranged_far : (m f e : ℕ) (r : List ℕ) → 15 < e → ranged m f e r ≡ none
unfolding ranged
ranged_far m f e r h = rw (lt-leb e 15 h, neither (leb f e))

ranged_over : (m f e : ℕ) (r : List ℕ) → most_whole < m * 10 ^ (e - f) → ranged m f e r ≡ none
unfolding ranged
ranged_over m f e r h = rw (lt-leb (m * 10 ^ (e - f)) most_whole h, neither (leb f e && leb e 15))

-- an exponent over 15
pub scaled_far : (m f e : ℕ) (r : List ℕ) → 15 < e → scaled m f e r ≡ none
unfolding scaled
scaled_far m f e r h =
    rw (ne_eqb e 0 (λ (z : e ≡ 0). omega arith), ranged_far m f e r h)
    (either (eqb m 0) _ _ refl (either (eqb (m % 10) 0) _ _ refl refl))

-- digits that are too many
scaled_over : (m f e : ℕ) (r : List ℕ) → 2 ^ 64 ≤ m → scaled m f e r ≡ none
unfolding scaled
scaled_over m f e r h =
    rw (ne_eqb m 0 (λ (z : m ≡ 0). omega arith), ranged_over m f e r (omega (arith, factor_below m (e - f))))
    (either (eqb (m % 10) 0) _ _ refl refl)

pub e_far : (m f : ℕ) (t : List ℕ) → 2 ^ 64 ≤ number 0 (run t) → behind_e m f t ≡ none
unfolding behind_e
e_far m f t h = either (unpadded (run t)) _ _ (scaled_far m f (number 0 (run t)) _ (omega arith)) refl

e_over : (m f : ℕ) (t : List ℕ) → 2 ^ 64 ≤ m → behind_e m f t ≡ none
unfolding behind_e
e_over m f t h = either (unpadded (run t)) _ _ (scaled_over m f (number 0 (run t)) _ h) refl

all_over : (m f : ℕ) (t : List ℕ) → 2 ^ 64 ≤ m → behind_all m f t ≡ none
unfolding behind_all
all_over m f t h = either (starts (byte "e") t) _ _ (e_over m f (drop 1 t) h) refl

-- a number over 0
module _ (m f e : ℕ) (r : List ℕ) (h : 0 < m % 10) where
  pub scaled-some : f ≤ e → e ≤ 15 → m * 10 ^ (e - f) ≤ most_whole → scaled m f e r ≡ some (m * 10 ^ (e - f), r)
  unfolding scaled ranged
  scaled-some l k b =
      rw (
        ne_eqb m 0 (λ (z : m ≡ 0). omega arith),
        ne_eqb (m % 10) 0 (λ (z : m % 10 ≡ 0). omega arith),
        le-leb f e l,
        le-leb e 15 k,
        le-leb (m * 10 ^ (e - f)) most_whole b,
      )

  scaled-ranged : scaled m f e r ≡ ranged m f e r
  unfolding scaled
  scaled-ranged = rw (ne_eqb m 0 (λ (z : m ≡ 0). omega arith), ne_eqb (m % 10) 0 (λ (z : m % 10 ≡ 0). omega arith))

  pub scaled-part : e < f → scaled m f e r ≡ none
  scaled-part l = scaled-ranged ∙ unfold ranged in rw (lt-leb f e l)

  pub scaled_most : most_whole < m * 10 ^ (e - f) → scaled m f e r ≡ none
  scaled_most l = scaled-ranged ∙ ranged_over m f e r l

pub scaled_ten : (m f e : ℕ) (r : List ℕ) → 0 < m → m % 10 ≡ 0 → scaled m f e r ≡ none
unfolding scaled
scaled_ten m f e r p h = rw (ne_eqb m 0 (λ (z : m ≡ 0). omega arith), h)

pub scaled-zero : (m f e : ℕ) (r : List ℕ) → m ≡ 0 → e ≡ 0 → scaled m f e r ≡ some (0, r)
unfolding scaled
scaled-zero m f e r h g = rw (h, g)

pub scaled-none : (m f e : ℕ) (r : List ℕ) → m ≡ 0 → 0 < e → scaled m f e r ≡ none
unfolding scaled
scaled-none m f e r h p = rw (h, ne_eqb e 0 (λ (z : e ≡ 0). omega arith))

-- what ends here was read here
pub read_here : (text : List ℕ) (end : ℕ) (o : ReadWhole) (n : ℕ) → o ≡ some (n, drop end text) → end ≤ length text → Reads text end o (some (n, end))
read_here text end o n h l = record { is = h; place = (omega arith, l) }

-- behind the first digit a point
module _ (m : ℕ) (t : List ℕ) (h : starts (byte ".") t ≡ true) where
  pub first-zero : m ≡ 0 → behind_first m t ≡ none
  unfolding behind_first
  first-zero z = rw (h, z)

  pub first-none : length (run (drop 1 t)) ≡ 0 → behind_first m t ≡ none
  unfolding behind_first
  first-none z = rw (h, z, neither (leb 1 m))

  pub first_some : 1 ≤ m → 1 ≤ length (run (drop 1 t)) → behind_first m t ≡ behind_all (number m (run (drop 1 t))) (length (run (drop 1 t))) (behind_digits (drop 1 t))
  unfolding behind_first
  first_some p l = rw (h, le-leb 1 m p, le-leb 1 (length (run (drop 1 t))) l)

  pub first_over : 2 ^ 64 ≤ number m (run (drop 1 t)) → behind_first m t ≡ none
  unfolding behind_first
  first_over v = rw (h, all_over (number m (run (drop 1 t))) (length (run (drop 1 t))) (behind_digits (drop 1 t)) v) (either (leb 1 m && leb 1 (length (run (drop 1 t)))) _ _ refl refl)

-- the first byte
pub whole_below : (c : ℕ) (t : List ℕ) → c < 48 → whole_number (c ∷ t) ≡ none
unfolding whole_number is_digit
whole_below c t h = rw (lt-leb 48 c h)

pub whole_above : (c : ℕ) (t : List ℕ) → 57 < c → whole_number (c ∷ t) ≡ none
unfolding whole_number is_digit
whole_above c t h = rw (lt-leb c 57 h, neither (leb 48 c))
