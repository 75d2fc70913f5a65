-- What is written reads back, whatever stands behind it that ends a token; and what is read is in range. Assumes nothing.
use mathlib.Core.Path.{◌≡◌, refl, sym, ap, subst, ◌∙◌}
use mathlib.Core.Bool.{Bool, true, false, ◌&&◌, ◌||◌}
use mathlib.Core.List.{List, [], ◌∷◌, ◌++◌, append_assoc, append-nil}
use mathlib.Core.Option.{Option, none, some}
use Prim.Native.Nat.{ℕ, zero, suc, ◌+◌, ◌-◌, ◌^◌, ◌≤◌, ◌<◌}
use native.Mathlib.Omega.{arith}
use lib.Dec.{ltb, leb, eqb}
use lib.IntN.{ℤ, pos, negsuc, neg_ℤ, nat_abs, ◌-ℤ◌}
use mir.Syntax.{w32, w64}
use mir.Val.{SFits}
use lib.ListN.{length, take, drop, replicate, length-append, length-replicate, length-drop, take-append-drop}
use borrow.Author.Tests.{le-leb, ltb-true, ltb-false, eqb-true, ne_eqb}
use Rattle.output.specs.Logic.{if, then, byte}
use Rattle.text_rules.specs.Digits.{digit, digits, is_digit, run, behind_digits, number, whole}
use Rattle.text_rules.specs.Texts.{starts, blank, delimiter, ended}
use Rattle.text_rules.specs.Words.{is_start, is_part}
use Rattle.text_rules.proofs.DigitLaws.{Digits, NoDigit, digits_append, digits-take, digits-drop, digits-zeros, run-digits, past_digits, number_append, number-zeros, number_digits, digits-digits, digits-some, digits_most, whole-digits, whole_take, never}
use Rattle.text_rules.proofs.WordsBack.{delimiter-part, delimiter-not}
use Rattle.numbers.specs.Decimal.{int_text, pointed, scientific, above, below, form, sign, decimal_text}
use Rattle.numbers.specs.Numeral.{Numeral, ReadNumeral, with_sign, in_i64, in_i32, ranged_int, shifted, ranged_decimal, power_of, behind_d, behind_point, behind_whole, unsigned, numeral}
use Rattle.numbers.proofs.Signed.{i32_fits, i32_some, i64-some, minus_minus, plus-minus, zero_minus, minus-zero}
use Rattle.numbers.proofs.NumeralLaws.{decimal_some, int_some, int_some-below}

-- ---- what follows

-- a digit is part of a word, and so ends no token
pub ended_no_digit : (r : List ℕ) → ended r ≡ true → NoDigit r
unfolding ended is_part
ended_no_digit [] h = tt
ended_no_digit (c ∷ r) h = last (is_start c) (is_digit c) (delimiter-part c h)
  where
    last : (a b : Bool) → a || b ≡ false → b ≡ false
    last true b h = never h
    last false b h = h

-- nor does any other byte that is no delimiter
ended_no : (b : ℕ) (r : List ℕ) → delimiter b ≡ false → ended r ≡ true → starts b r ≡ false
unfolding ended starts
ended_no b [] g h = refl
ended_no b (c ∷ r) g h = delimiter-not c b h g

pub ended_no_d : (r : List ℕ) → ended r ≡ true → starts (byte "d") r ≡ false
unfolding delimiter blank
ended_no_d r h = ended_no (byte "d") r refl h

ended_no_point : (r : List ℕ) → ended r ≡ true → starts (byte ".") r ≡ false
unfolding delimiter blank
ended_no_point r h = ended_no (byte ".") r refl h

-- digits start with no other byte
starts-digits : (b : ℕ) (s r : List ℕ) → is_digit b ≡ false → 1 ≤ length s → Digits s → starts b (s ++ r) ≡ false
unfolding starts
starts-digits b [] r h p d = let bad : ⊥ = omega arith in absurd bad
starts-digits b (c ∷ s) r h p d = ne_eqb c b (λ (e : c ≡ b). never (sym d.0 ∙ ap is_digit e ∙ h))

-- ---- the parts of a token

-- the written exponent z less n digits after the point is e
decimal_made : (neg : Bool) (m n : ℕ) (z e : ℤ) (r : List ℕ) → m < 2 ^ 64 → z -ℤ pos n ≡ e → SFits w32 e → ranged_decimal neg m n z r ≡ some (Numeral.decimal neg m e, r)
unfolding shifted
decimal_made neg m n z e r h64 hz f = decimal_some neg m n z e r h64 (ap in_i32 hz ∙ i32_fits e f)

-- the digits of a written exponent
power_digits : (neg : Bool) (m n : ℕ) (minus : Bool) (k : ℕ) (r : List ℕ) (o : ReadNumeral) → k < 10 ^ 10 → NoDigit r → ranged_decimal neg m n (with_sign minus k) r ≡ o
    → power_of neg m n minus (run (digits k ++ r)) (behind_digits (digits k ++ r)) ≡ o
unfolding power_of
power_digits neg m n minus k r o h hr ho =
    rw (
      run-digits (digits k) r (digits-digits k) hr,
      past_digits (digits k) r (digits-digits k) hr,
      le-leb 1 (length (digits k)) (digits-some k),
      le-leb (length (digits k)) 10 (digits_most 9 k h),
      number_digits k (omega arith),
      ho,
    )

power_back : (neg : Bool) (m n : ℕ) (z e : ℤ) (r : List ℕ) → m < 2 ^ 64 → z -ℤ pos n ≡ e → SFits w32 e → nat_abs z < 10 ^ 10 → NoDigit r
    → behind_d neg m n (int_text z ++ r) ≡ some (Numeral.decimal neg m e, r)
unfolding behind_d int_text starts is_digit
power_back neg m n (pos k) e r h64 hz f h hr =
    rw (starts-digits (byte "-") (digits k) r refl (digits-some k) (digits-digits k), starts-digits (byte "+") (digits k) r refl (digits-some k) (digits-digits k))
    (power_digits neg m n false k r _ h hr (decimal_made neg m n (pos k) e r h64 hz f))
power_back neg m n (negsuc k) e r h64 hz f h hr = power_digits neg m n true (suc k) r _ h hr (decimal_made neg m n (negsuc k) e r h64 hz f)

-- ---- the three shapes of a token, of the digits w, those after the point f and the written exponent

module _ (neg : Bool) (w f r : List ℕ) (m : ℕ) (e : ℤ) (dw : Digits w) (hw : whole w ≡ true) (df : Digits f) (nr : NoDigit r) (h64 : m < 2 ^ 64) (he : SFits w32 e) where
  read_point : starts (byte "d") r ≡ false → number 0 (w ++ f) ≡ m → pos 0 -ℤ pos (length f) ≡ e → unsigned neg (w ++ (byte "." ∷ (f ++ r))) ≡ some (Numeral.decimal neg m e, r)
  unfolding unsigned behind_whole behind_point starts is_digit
  read_point sr hm hz =
      rw (
        run-digits w (byte "." ∷ (f ++ r)) dw refl,
        past_digits w (byte "." ∷ (f ++ r)) dw refl,
        hw,
        run-digits f r df nr,
        past_digits f r df nr,
        sr,
        sym (number_append 0 w f) ∙ hm,
        decimal_made neg m (length f) (pos 0) e r h64 hz he,
      )

  read_point_power : (z : ℤ) → number 0 (w ++ f) ≡ m → z -ℤ pos (length f) ≡ e → nat_abs z < 10 ^ 10
      → unsigned neg (w ++ (byte "." ∷ (f ++ (byte "d" ∷ (int_text z ++ r))))) ≡ some (Numeral.decimal neg m e, r)
  unfolding unsigned behind_whole behind_point starts is_digit
  read_point_power z hm hz h =
      let t : List ℕ = byte "d" ∷ (int_text z ++ r) in
      rw (
        run-digits w (byte "." ∷ (f ++ t)) dw refl,
        past_digits w (byte "." ∷ (f ++ t)) dw refl,
        hw,
        run-digits f t df refl,
        past_digits f t df refl,
        sym (number_append 0 w f) ∙ hm,
        power_back neg m (length f) z e r h64 hz he h nr,
      )

  read_power : (z : ℤ) → number 0 w ≡ m → z -ℤ pos 0 ≡ e → nat_abs z < 10 ^ 10 → unsigned neg (w ++ (byte "d" ∷ (int_text z ++ r))) ≡ some (Numeral.decimal neg m e, r)
  unfolding unsigned behind_whole starts is_digit
  read_power z hm hz h =
      let t : List ℕ = byte "d" ∷ (int_text z ++ r) in
      rw (run-digits w t dw refl, past_digits w t dw refl, hw, hm, power_back neg m 0 z e r h64 hz he h nr)

-- a token with no sign is no other
signless : (t : List ℕ) (v : Numeral × List ℕ) → unsigned false t ≡ some v → numeral t ≡ some v
unfolding numeral starts unsigned run is_digit whole
signless [] v h = h
signless (c ∷ t) v h = go (eqb c (byte "-")) refl
  where
    go : (b : Bool) → eqb c (byte "-") ≡ b → if b (unsigned true t) (unsigned false (c ∷ t)) ≡ some v
    go false e = h
    go true e = let n : none ≡ some v = ap (λ (k : ℕ). unsigned false (k ∷ t)) (sym (eqb-true c (byte "-") e)) ∙ h in cc

-- ---- the six forms

module _ (neg : Bool) (m : ℕ) (e : ℤ) (r : List ℕ) (h64 : m < 2 ^ 64) (he : SFits w32 e) (hr : ended r ≡ true) where
  abbrev ds : List ℕ
  ds = digits m

  abbrev Back : List ℕ → Type 0
  Back s = unsigned neg (s ++ r) ≡ some (Numeral.decimal neg m e, r)

  -- digits with a point after k of them, 1 at least
  back_inside : (k : ℕ) → 0 < k → neg_ℤ (pos (length ds - k)) ≡ e → Back (pointed ds k)
  unfolding pointed
  back_inside k p h =
      simp append_assoc (read_point neg (take k ds) (drop k ds) r m e
      (digits-take k ds (digits-digits m)) (whole_take k ds p (whole-digits m h64)) (digits-drop k ds (digits-digits m)) (ended_no_digit r hr) h64 he
      (ended_no_d r hr) (rw take-append-drop (number_digits m h64)) (rw length-drop (zero_minus (length ds - k) ∙ h)))

  back_point : pos 0 ≡ e → Back (ds ++ (byte "." ∷ []))
  back_point h =
      simp append_assoc (read_point neg ds [] r m e (digits-digits m) (whole-digits m h64) tt (ended_no_digit r hr) h64 he
      (ended_no_d r hr) (rw append-nil (number_digits m h64)) h)

  back_power : (k : ℕ) → pos k ≡ e → k < 2 ^ 31 → Back (ds ++ (byte "d" ∷ int_text (pos k)))
  back_power k h l =
      simp append_assoc (read_power neg ds [] r m e (digits-digits m) (whole-digits m h64) tt (ended_no_digit r hr) h64 he
      (pos k) (number_digits m h64) (minus-zero (pos k) ∙ h) (omega arith))

  back_zeros : (k : ℕ) → neg_ℤ (pos (k + length ds)) ≡ e → Back (byte "0" ∷ byte "." ∷ (replicate k (byte "0") ++ ds))
  unfolding number is_digit whole
  back_zeros k h =
      read_point neg (byte "0" ∷ []) (replicate k (byte "0") ++ ds) r m e
      (refl, tt) refl (digits_append (replicate k (byte "0")) ds (digits-zeros k) (digits-digits m)) (ended_no_digit r hr) h64 he
      (ended_no_d r hr) (number-zeros k ds ∙ number_digits m h64) (simp (length-append, length-replicate) (zero_minus (k + length ds) ∙ h))

  back_scientific : (z : ℤ) → z -ℤ pos (length ds - 1) ≡ e → nat_abs z < 10 ^ 10 → Back (scientific ds z)
  unfolding scientific pointed
  back_scientific z h l =
      simp append_assoc (read_point_power neg (take 1 ds) (drop 1 ds) r m e
      (digits-take 1 ds (digits-digits m)) (whole_take 1 ds (omega arith) (whole-digits m h64)) (digits-drop 1 ds (digits-digits m)) (ended_no_digit r hr) h64 he
      z (rw take-append-drop (number_digits m h64)) (rw length-drop h) l)

module _ (neg : Bool) (m : ℕ) (r : List ℕ) (h64 : m < 2 ^ 64) (hr : ended r ≡ true) where
  back_above : (k : ℕ) → SFits w32 (pos k) → unsigned neg (above (digits m) (length (digits m)) k ++ r) ≡ some (Numeral.decimal neg m (pos k), r)
  unfolding above
  back_above zero he = go (ltb 6 (length (digits m))) refl
    where
      go : (b : Bool) → ltb 6 (length (digits m)) ≡ b
          → unsigned neg (if b (scientific (digits m) (pos (length (digits m) - 1))) (digits m ++ (byte "." ∷ [])) ++ r) ≡ some (Numeral.decimal neg m (pos 0), r)
      go true e =
          let z : length (digits m) - 1 - (length (digits m) - 1) ≡ 0 = omega arith in
          back_scientific neg m (pos 0) r h64 he hr (pos (length (digits m) - 1))
          (plus-minus (length (digits m) - 1) (length (digits m) - 1) (omega arith) ∙ ap pos z)
          (omega (arith, digits_most 19 m (omega arith)))
      go false e = back_point neg m (pos 0) r h64 he hr refl
  back_above (suc k) he = back_power neg m (pos (suc k)) r h64 he hr (suc k) refl he.sfits

  -- the exponent -(n + 1)
  back_below : (n : ℕ) → SFits w32 (negsuc n) → unsigned neg (below (digits m) (length (digits m)) (suc n) ++ r) ≡ some (Numeral.decimal neg m (negsuc n), r)
  unfolding below
  back_below n he = go (ltb (suc n) (length (digits m))) refl (leb (suc n) (length (digits m) + 5)) refl
    where
      go : (b : Bool) → ltb (suc n) (length (digits m)) ≡ b → (c : Bool) → leb (suc n) (length (digits m) + 5) ≡ c
          → unsigned neg (if b (pointed (digits m) (length (digits m) - suc n)) (if c (byte "0" ∷ byte "." ∷ (replicate (suc n - length (digits m)) (byte "0") ++ digits m)) (scientific (digits m) (negsuc (suc n - length (digits m))))) ++ r) ≡ some (Numeral.decimal neg m (negsuc n), r)
      go true e c f =
          let l = ltb-true (suc n) (length (digits m)) e in
          let z : length (digits m) - (length (digits m) - suc n) ≡ suc n = omega arith in
          back_inside neg m (negsuc n) r h64 he hr (length (digits m) - suc n) (omega arith) (ap (λ (k : ℕ). neg_ℤ (pos k)) z)
      go false e true f =
          let l = ltb-false (suc n) (length (digits m)) e in
          let z : suc n - length (digits m) + length (digits m) ≡ suc n = omega arith in
          back_zeros neg m (negsuc n) r h64 he hr (suc n - length (digits m)) (ap (λ (k : ℕ). neg_ℤ (pos k)) z)
      go false e false f =
          let l = ltb-false (suc n) (length (digits m)) e in
          let d = digits-some m in
          let z : suc (suc n - length (digits m)) + (length (digits m) - 1) ≡ suc n = omega arith in
          back_scientific neg m (negsuc n) r h64 he hr (negsuc (suc n - length (digits m)))
          (minus_minus (suc (suc n - length (digits m))) (length (digits m) - 1) ∙ ap (λ (k : ℕ). neg_ℤ (pos k)) z)
          (omega (arith, he.sfits))

back_form : (neg : Bool) (m : ℕ) (e : ℤ) (r : List ℕ) → m < 2 ^ 64 → SFits w32 e → ended r ≡ true
    → unsigned neg (form (digits m) (length (digits m)) e ++ r) ≡ some (Numeral.decimal neg m e, r)
unfolding form
back_form neg m (pos k) r h64 he hr = back_above neg m r h64 hr k he
back_form neg m (negsuc n) r h64 he hr = back_below neg m r h64 hr n he

-- every decimal of 64 bits of magnitude and 32 of exponent
pub decimal_back : (neg : Bool) (m : ℕ) (e : ℤ) (r : List ℕ) → m < 2 ^ 64 → SFits w32 e → ended r ≡ true → numeral (decimal_text neg m e ++ r) ≡ some (Numeral.decimal neg m e, r)
unfolding decimal_text sign numeral starts
decimal_back true m e r h64 he hr = back_form true m e r h64 he hr
decimal_back false m e r h64 he hr = signless _ _ (back_form false m e r h64 he hr)

-- a lone digit reads alike with its point and without
module _ (neg : Bool) (d : ℕ) (e : ℤ) (r : List ℕ) (h : d < 10) (he : SFits w32 e) (hr : ended r ≡ true) where
  small : (e : ℤ) → SFits w32 e → nat_abs e < 10 ^ 10
  small (pos k) f = omega (arith, f.sfits)
  small (negsuc k) f = omega (arith, f.sfits)

  lone : is_digit (digit d) ≡ true
  unfolding is_digit
  lone =
      let lo : 48 ≤ 48 + d = omega arith in
      let hi : 48 + d ≤ 57 = omega arith in
      simp (le-leb _ _ lo, le-leb _ _ hi)

  with_point : unsigned neg (digit d ∷ byte "." ∷ byte "d" ∷ (int_text e ++ r)) ≡ some (Numeral.decimal neg d e, r)
  unfolding whole number
  with_point = read_point_power neg (digit d ∷ []) [] r d e (lone, tt) refl tt (ended_no_digit r hr) (omega arith) he e (omega arith) (minus-zero e) (small e he)

  without : unsigned neg (digit d ∷ byte "d" ∷ (int_text e ++ r)) ≡ some (Numeral.decimal neg d e, r)
  unfolding whole number
  without = read_power neg (digit d ∷ []) [] r d e (lone, tt) refl tt (ended_no_digit r hr) (omega arith) he e (omega arith) (minus-zero e) (small e he)

pub lone-digit : (neg : Bool) (d : ℕ) (e : ℤ) (r : List ℕ) → d < 10 → SFits w32 e → ended r ≡ true
    → numeral (sign neg ++ (digit d ∷ byte "." ∷ byte "d" ∷ (int_text e ++ r))) ≡ numeral (sign neg ++ (digit d ∷ byte "d" ∷ (int_text e ++ r)))
unfolding sign numeral starts
lone-digit true d e r h he hr = with_point true d e r h he hr ∙ sym (without true d e r h he hr)
lone-digit false d e r h he hr = signless _ _ (with_point false d e r h he hr) ∙ sym (signless _ _ (without false d e r h he hr))

-- ---- ints, by the same scanner

int_unsigned : (neg : Bool) (m : ℕ) (r : List ℕ) → m < 2 ^ 64 → ended r ≡ true → unsigned neg (digits m ++ r) ≡ ranged_int neg m r
unfolding unsigned behind_whole
int_unsigned neg m r h hr =
    rw (
      run-digits (digits m) r (digits-digits m) (ended_no_digit r hr),
      past_digits (digits m) r (digits-digits m) (ended_no_digit r hr),
      whole-digits m h,
      number_digits m h,
      ended_no_point r hr,
      ended_no_d r hr,
    )

pub int_back : (n : ℤ) (r : List ℕ) → SFits w64 n → ended r ≡ true → numeral (int_text n ++ r) ≡ some (Numeral.int n, r)
unfolding int_text numeral starts
int_back (pos m) r f hr = signless _ _ (int_unsigned false m r (omega (arith, f.sfits)) hr ∙ int_some m r f.sfits)
int_back (negsuc m) r f hr = int_unsigned true (suc m) r (omega (arith, f.sfits)) hr ∙ int_some-below m r f.sfits

-- ---- what is read is in range

abbrev Ranged : Numeral → Type 0
Ranged (Numeral.int z) = SFits w64 z
Ranged (Numeral.decimal neg m e) = (m < 2 ^ 64) × SFits w32 e

record InRange (o : ReadNumeral) : Type 0 where
  all : (v : Numeral × List ℕ) → o ≡ some v → Ranged v.0

range_none : InRange none
range_none = record { all = λ v h. let n : ◌≡◌ {A = ℕ} 0 1 = cc in let bad : ⊥ = omega arith in absurd bad }

range_if : (b : Bool) (o o' : ReadNumeral) → InRange o → InRange o' → InRange (if b o o')
range_if true o o' h g = h
range_if false o o' h g = g

range_some : (a : Numeral) (r : List ℕ) → Ranged a → InRange (some (a, r))
range_some a r h = record { all = λ v e. let q : a ≡ v.0 = cc in subst Ranged q h }

range_decimal : (neg : Bool) (m n : ℕ) (z : ℤ) (r : List ℕ) → InRange (ranged_decimal neg m n z r)
unfolding ranged_decimal shifted
range_decimal neg m n z r = go (ltb m (2 ^ 64)) refl (in_i32 (z -ℤ pos n)) refl
  where
    go : (b : Bool) → ltb m (2 ^ 64) ≡ b → (o : Option ℤ) → in_i32 (z -ℤ pos n) ≡ o → InRange (if b (then o (λ x. some (Numeral.decimal neg m x, r))) none)
    go false e o h = range_none
    go true e none h = range_none
    go true e (some x) h = range_some (Numeral.decimal neg m x) r (ltb-true m (2 ^ 64) e, i32_some (z -ℤ pos n) x h)

range_int : (neg : Bool) (m : ℕ) (r : List ℕ) → InRange (ranged_int neg m r)
unfolding ranged_int
range_int neg m r = go (neg && eqb m 0) (in_i64 (with_sign neg m)) refl
  where
    go : (b : Bool) (o : Option ℤ) → in_i64 (with_sign neg m) ≡ o → InRange (if b none (then o (λ z. some (Numeral.int z, r))))
    go true o h = range_none
    go false none h = range_none
    go false (some z) h = range_some (Numeral.int z) r (i64-some (with_sign neg m) z h)

range_power : (neg : Bool) (m n : ℕ) (minus : Bool) (es r : List ℕ) → InRange (power_of neg m n minus es r)
unfolding power_of
range_power neg m n minus es r = range_if (leb 1 (length es) && leb (length es) 10) _ _ (range_decimal neg m n (with_sign minus (number 0 es)) r) range_none

range_d : (neg : Bool) (m n : ℕ) (t : List ℕ) → InRange (behind_d neg m n t)
unfolding behind_d
range_d neg m n t = range_if (starts (byte "-") t) _ _ (range_power neg m n true _ _) (range_if (starts (byte "+") t) _ _ (range_power neg m n false _ _) (range_power neg m n false _ _))

range_point : (neg : Bool) (m n : ℕ) (t : List ℕ) → InRange (behind_point neg m n t)
unfolding behind_point
range_point neg m n t = range_if (starts (byte "d") t) _ _ (range_d neg m n (drop 1 t)) (range_decimal neg m n (pos 0) t)

range_whole : (neg : Bool) (m : ℕ) (t : List ℕ) → InRange (behind_whole neg m t)
unfolding behind_whole
range_whole neg m t = range_if (starts (byte ".") t) _ _ (range_point neg _ _ _) (range_if (starts (byte "d") t) _ _ (range_d neg m 0 (drop 1 t)) (range_int neg m t))

range_unsigned : (neg : Bool) (t : List ℕ) → InRange (unsigned neg t)
unfolding unsigned
range_unsigned neg t = range_if (whole (run t)) _ _ (range_whole neg _ _) range_none

range_numeral : (t : List ℕ) → InRange (numeral t)
unfolding numeral
range_numeral t = range_if (starts (byte "-") t) _ _ (range_unsigned true (drop 1 t)) (range_unsigned false t)

pub decimal_range : (t r : List ℕ) (neg : Bool) (m : ℕ) (e : ℤ) → numeral t ≡ some (Numeral.decimal neg m e, r) → (m < 2 ^ 64) × SFits w32 e
decimal_range t r neg m e h = (range_numeral t).all (Numeral.decimal neg m e, r) h

pub int_range : (t r : List ℕ) (z : ℤ) → numeral t ≡ some (Numeral.int z, r) → SFits w64 z
int_range t r z h = (range_numeral t).all (Numeral.int z, r) h
