-- A timestamp is no float, and behind the int or decimal that a float starts with stands its `e`. Assumes nothing.
use mathlib.Core.Path.{◌≡◌, refl, sym, ap, ◌∙◌}
use mathlib.Core.Bool.{Bool, true, false, ◌&&◌}
use mathlib.Core.List.{List, [], ◌∷◌}
use mathlib.Core.Option.{Option, none, some}
use Prim.Native.Nat.{ℕ, ◌-◌, ◌^◌}
use native.Mathlib.Omega.{arith}
use lib.Dec.{eqb, leb, ltb}
use lib.IntN.{ℤ}
use lib.ListN.{length, drop}
use borrow.Author.Tests.{eqb-true, ne_eqb}
use Rattle.output.specs.Logic.{if, then, on, byte, ascii}
use Rattle.text_rules.specs.Digits.{is_digit, run, behind_digits, number, whole}
use Rattle.text_rules.specs.Texts.{starts, strip}
use Rattle.text_rules.proofs.DigitLaws.{never, digit_range}
use Rattle.numbers.specs.Numeral.{Numeral, with_sign, in_i64, ranged_int, shifted, ranged_decimal, behind_point, behind_whole, unsigned, numeral}
use Rattle.numbers.specs.TimestampRead.{joined, timestamp}
use Rattle.numbers.specs.declared.timestamp.Timestamp.{Timestamp}
use Rattle.floats.specs.Whole.{behind_all, behind_first, whole_number}
use Rattle.floats.specs.Float.{spelled, signed_whole, float}
use Rattle.floats.proofs.WholeOnce.{none-some}
use Rattle.floats.proofs.FloatLaws.{signed-none, float-nothing, float-digit, float-minus}

-- ---- where no whole number stands

all_none : (m f : ℕ) (t : List ℕ) → starts (byte "e") t ≡ false → behind_all m f t ≡ none
unfolding behind_all
all_none m f t h = rw h

if_none : {A : Type 0} (b : Bool) (o : Option A) → o ≡ none → if b o none ≡ none
if_none true o e = e
if_none false o e = refl

-- behind a digit stands no `e`, and none behind a point and digits
record Bare (t : List ℕ) : Type 0 where
  no_e : starts (byte ".") t ≡ false → starts (byte "e") t ≡ false
  no_late_e : starts (byte ".") t ≡ true → starts (byte "e") (behind_digits (drop 1 t)) ≡ false

bare_none : (c : ℕ) (t : List ℕ) → is_digit c ≡ true → Bare t → whole_number (c ∷ t) ≡ none
unfolding whole_number behind_first
bare_none c t d b = rw d (go (starts (byte ".") t) refl)
  where
    go : (p : Bool) → starts (byte ".") t ≡ p
        → if p (if (leb 1 (c - byte "0") && leb 1 (length (run (drop 1 t)))) (behind_all (number (c - byte "0") (run (drop 1 t))) (length (run (drop 1 t))) (behind_digits (drop 1 t))) none) (behind_all (c - byte "0") 0 t) ≡ none
    go true e = if_none (leb 1 (c - byte "0") && leb 1 (length (run (drop 1 t)))) _ (all_none _ _ _ (b.no_late_e e))
    go false e = all_none _ _ _ (b.no_e e)

-- ---- what stands behind an int or a decimal

then_rest : {A : Type 0} {B : Type 0} (o : Option A) (f : A → B) (s : List ℕ) {v : B} {r : List ℕ} → then {B = B × List ℕ} o (λ z. some (f z, s)) ≡ some (v, r) → s ≡ r
then_rest none f s e = none-some e
then_rest {B = B} (some z) f s e = ap (λ (o : Option (B × List ℕ)). on o (λ w. w.1) []) e

int_rest : (neg : Bool) (m : ℕ) (s : List ℕ) {v : Numeral} {r : List ℕ} → ranged_int neg m s ≡ some (v, r) → s ≡ r
unfolding ranged_int
int_rest neg m s {v} {r} e = go (neg && eqb m 0) e
  where
    go : (b : Bool) → if b none (then {B = Numeral × List ℕ} (in_i64 (with_sign neg m)) (λ z. some (Numeral.int z, s))) ≡ some (v, r) → s ≡ r
    go true h = none-some h
    go false h = then_rest (in_i64 (with_sign neg m)) Numeral.int s h

decimal_rest : (neg : Bool) (m n : ℕ) (x : ℤ) (s : List ℕ) {v : Numeral} {r : List ℕ} → ranged_decimal neg m n x s ≡ some (v, r) → s ≡ r
unfolding ranged_decimal
decimal_rest neg m n x s {v} {r} e = go (ltb m (2 ^ 64)) e
  where
    go : (b : Bool) → if b (then {B = Numeral × List ℕ} (shifted n x) (λ y. some (Numeral.decimal neg m y, s))) none ≡ some (v, r) → s ≡ r
    go true h = then_rest (shifted n x) (Numeral.decimal neg m) s h
    go false h = none-some h

starts_apart : (b d : ℕ) (t : List ℕ) → eqb b d ≡ false → starts b t ≡ true → starts d t ≡ false
unfolding starts
starts_apart b d [] n h = refl
starts_apart b d (c ∷ t) n h = rw (eqb-true c b h) n

not_none : (s : List ℕ) (b : Bool) → starts (byte "e") s ≡ b → (starts (byte "e") s ≡ true → ⊥) → starts (byte "e") s ≡ false
not_none s true e n = absurd (n e)
not_none s false e n = e

-- one digit, and something else behind it
lone : (neg : Bool) (c x : ℕ) (t : List ℕ) → is_digit c ≡ true → is_digit x ≡ false → unsigned neg (c ∷ x ∷ t) ≡ behind_whole neg (number 0 (c ∷ [])) (x ∷ t)
unfolding unsigned run behind_digits whole
lone neg c x t d n = rw (d, n)

-- behind a first digit, from which an int or a decimal was read that has no `e` behind it
module _ (neg : Bool) (c : ℕ) (t : List ℕ) (d : is_digit c ≡ true) {v : Numeral} {r : List ℕ} (e : unsigned neg (c ∷ t) ≡ some (v, r)) (h : starts (byte "e") r ≡ false) where
  apart : (s : List ℕ) → starts (byte "e") s ≡ true → s ≡ r → ⊥
  apart s i q = never (sym i ∙ ap (starts (byte "e")) q ∙ h)

  -- no digit follows
  alone : (b : ℕ) → is_digit b ≡ false → starts b t ≡ true → unsigned neg (c ∷ t) ≡ behind_whole neg (number 0 (c ∷ [])) t
  alone b n i = go t i
    where
      go : (t : List ℕ) → starts b t ≡ true → unsigned neg (c ∷ t) ≡ behind_whole neg (number 0 (c ∷ [])) t
      go [] i = never (sym (unfold starts in i))
      go (x ∷ u) i = lone neg c x u d (ap is_digit (eqb-true x b (unfold starts in i)) ∙ n)

  unsigned_bare : Bare t
  unsigned_bare = record {
    no_e = λ p. not_none t (starts (byte "e") t) refl (λ i. apart t i (int_rest neg (number 0 (c ∷ [])) t (sym (int p i) ∙ sym (alone (byte "e") (unfold is_digit in refl) i) ∙ e)));
    no_late_e = λ p. not_none (behind_digits (drop 1 t)) (starts (byte "e") (behind_digits (drop 1 t))) refl (λ i. apart (behind_digits (drop 1 t)) i (decimal_rest neg _ _ _ (behind_digits (drop 1 t)) (sym (decimal p i) ∙ sym (alone (byte ".") (unfold is_digit in refl) p) ∙ e)));
  }
    where
      int : starts (byte ".") t ≡ false → starts (byte "e") t ≡ true → behind_whole neg (number 0 (c ∷ [])) t ≡ ranged_int neg (number 0 (c ∷ [])) t
      int p i = unfold behind_whole in rw (p, starts_apart (byte "e") (byte "d") t refl i)

      decimal : starts (byte ".") t ≡ true → starts (byte "e") (behind_digits (drop 1 t)) ≡ true → behind_whole neg (number 0 (c ∷ [])) t ≡ ranged_decimal neg (number (number 0 (c ∷ [])) (run (drop 1 t))) (length (run (drop 1 t))) (lib.IntN.pos 0) (behind_digits (drop 1 t))
      decimal p i = unfold behind_whole behind_point in rw (p, starts_apart (byte "e") (byte "d") (behind_digits (drop 1 t)) refl i)

  signed-apart : (s : Bool) → signed_whole s (c ∷ t) ≡ none
  signed-apart s = signed-none s (c ∷ t) (bare_none c t d unsigned_bare)

-- what starts with no digit is no number
unsigned-nothing : (neg : Bool) {v : Numeral} {r : List ℕ} → unsigned neg [] ≡ some (v, r) → ⊥
unfolding unsigned run whole
unsigned-nothing neg e = none-some e

unsigned-other : (neg : Bool) (c : ℕ) (t : List ℕ) {v : Numeral} {r : List ℕ} → is_digit c ≡ false → unsigned neg (c ∷ t) ≡ some (v, r) → ⊥
unsigned-other neg c t d e = none-some (sym is ∙ e)
  where
    is : unsigned neg (c ∷ t) ≡ none
    is = unfold unsigned run whole in rw d

no_infinity : (c : ℕ) (t : List ℕ) → is_digit c ≡ true → spelled (ascii "-inf") true (byte "-" ∷ c ∷ t) ≡ none
unfolding spelled strip
no_infinity c t d = let g = digit_range c d in rw (ne_eqb c (byte "i") (λ q. omega arith))

pub numeral-float : (t : List ℕ) (v : Numeral) (r : List ℕ) → numeral t ≡ some (v, r) → starts (byte "e") r ≡ false → float t ≡ none
unfolding numeral starts
numeral-float [] v r e h = float-nothing
numeral-float (c ∷ t) v r e h = go (eqb c (byte "-")) refl e
  where
    minus : (t : List ℕ) → unsigned true t ≡ some (v, r) → float (byte "-" ∷ t) ≡ none
    minus [] e = absurd (unsigned-nothing true e)
    minus (d ∷ u) e = digit (is_digit d) refl
      where
        digit : (b : Bool) → is_digit d ≡ b → float (byte "-" ∷ d ∷ u) ≡ none
        digit true i = float-minus (d ∷ u) ∙ rw (no_infinity d u i, signed-apart true d u i e h true)
        digit false i = absurd (unsigned-other true d u i e)

    plain : unsigned false (c ∷ t) ≡ some (v, r) → (b : Bool) → is_digit c ≡ b → float (c ∷ t) ≡ none
    plain e true i = float-digit c t i ∙ signed-apart false c t i e h false
    plain e false i = absurd (unsigned-other false c t i e)

    go : (b : Bool) → eqb c (byte "-") ≡ b → if b (unsigned true t) (unsigned false (c ∷ t)) ≡ some (v, r) → float (c ∷ t) ≡ none
    go true i e = rw (eqb-true c (byte "-") i) (minus t e)
    go false i e = plain e (is_digit c) refl

-- ---- timestamps: four digits stand first

untimed : (t : List ℕ) → joined 0 4 t ≡ none → timestamp t ≡ none
unfolding timestamp
untimed t e = rw e

digit-starts : (b c : ℕ) (t : List ℕ) → is_digit b ≡ false → is_digit c ≡ true → starts b (c ∷ t) ≡ false
unfolding starts
digit-starts b c t n i = ne_eqb c b (λ q. never (sym i ∙ ap is_digit q ∙ n))

pub timestamp-float : (t : List ℕ) (x : Timestamp) (r : List ℕ) → timestamp t ≡ some (x, r) → float t ≡ none
timestamp-float [] x r e = float-nothing
timestamp-float (c ∷ t) x r e = go (is_digit c) refl t e
  where
    none_here : (t : List ℕ) → joined 0 4 t ≡ none → timestamp t ≡ some (x, r) → ⊥
    none_here t n e = none-some (sym (untimed t n) ∙ e)

    next : (b : Bool) (d : ℕ) (u : List ℕ) → is_digit c ≡ true → is_digit d ≡ b → timestamp (c ∷ d ∷ u) ≡ some (x, r) → float (c ∷ d ∷ u) ≡ none
    next true d u i j e =
        let no : (b : ℕ) → is_digit b ≡ false → starts b (d ∷ u) ≡ false = λ b n. digit-starts b d u n j in
        float-digit c (d ∷ u) i
        ∙ signed-none false (c ∷ d ∷ u) (bare_none c (d ∷ u) i record { no_e = λ _. no (byte "e") (unfold is_digit in refl); no_late_e = λ p. never (sym p ∙ no (byte ".") (unfold is_digit in refl)) })
    next false d u i j e = absurd (none_here (c ∷ d ∷ u) (unfold joined in rw (i, j)) e)

    go : (b : Bool) → is_digit c ≡ b → (t : List ℕ) → timestamp (c ∷ t) ≡ some (x, r) → float (c ∷ t) ≡ none
    go true i [] e = absurd (none_here (c ∷ []) (unfold joined in rw i) e)
    go true i (d ∷ u) e = next (is_digit d) d u i refl e
    go false i t e = absurd (none_here (c ∷ t) (unfold joined in rw i) e)
