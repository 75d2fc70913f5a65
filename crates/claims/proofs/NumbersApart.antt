-- A written number is taken for no other token. Timestamps, ints and decimals are told apart by the digits that they start with and the byte
-- behind these; that none of them is a float stands in `floats` (FloatApart). Assumes nothing.
use Prim.Native.Nat.{ℕ, zero, suc, ◌+◌, ◌-◌, ◌*◌, ◌≤◌}
use mathlib.Core.Path.{◌≡◌, refl}
use mathlib.Core.List.{List, [], ◌∷◌, ◌++◌, append_assoc}
use mathlib.Core.Bool.{Bool, true, false}
use mathlib.Core.Option.{Option, none, some}
use native.Mathlib.Omega.{arith}
use lib.Dec.{eqb, leb, ltb}
use lib.IntN.{ℤ, pos, negsuc}
use lib.ListN.{length, take, drop, replicate, length-take}
use borrow.Author.Tests.{ltb-true}
use Rattle.output.specs.Logic.{if, then, byte}
use Rattle.text_rules.specs.Digits.{is_digit, digits, pad}
use Rattle.text_rules.specs.Texts.{starts, ended, delimiter, blank}
use Rattle.numbers.specs.Decimal.{int_text, pointed, scientific, above, below, form, sign, decimal_text}
use Rattle.numbers.specs.declared.timestamp.Timestamp.{Timestamp}
use Rattle.numbers.specs.Timestamp.{timestamp_text, year_and_month, date, date_hour_and_minute}
use Rattle.numbers.specs.TimestampRead.{joined, timestamp, behind_year, checked, dated}
use Rattle.reader.specs.Grammar.{numeric}
use Rattle.text_rules.proofs.DigitLaws.{Digits, NoDigit, digits-take, digits-digits, digits-some, digits-pad, length-pad}
use Rattle.text_rules.proofs.WordsBack.{delimiter-not}
use Rattle.numbers.proofs.DecimalBack.{ended_no_digit}
use Rattle.claims.proofs.FirstBytes.{First, other}

-- ---- digits, and what stands behind them

-- a sign or none, and a digit
pub record Number (t : List ℕ) : Type 0 where
  pub neg : Bool
  pub first : ℕ
  pub rest : List ℕ
  pub is : t ≡ sign neg ++ (first ∷ rest)
  pub digit : is_digit first ≡ true

digits-not : (b : ℕ) (w u : List ℕ) → is_digit b ≡ false → Digits w → starts b u ≡ false → starts b (w ++ u) ≡ false
unfolding starts
digits-not b [] u h d e = e
digits-not b (c ∷ w) u h d e = other is_digit c b d.0 h

made : (neg : Bool) (w u : List ℕ) → Digits w → 1 ≤ length w → Number (sign neg ++ (w ++ u))
made neg [] u d l = absurd (omega arith)
made neg (c ∷ w) u d l = record { neg = neg; first = c; rest = w ++ u; is = refl; digit = d.0 }

pub number-first : {t : List ℕ} → Number t → First numeric t
number-first {t} n = go n.neg n.is
  where
    go : (b : Bool) → t ≡ sign b ++ (n.first ∷ n.rest) → First numeric t
    go true e = record { byte₀ = byte "-"; rest = n.first ∷ n.rest; is = unfold sign in e; tells = unfold numeric is_digit in refl }
    go false e = record { byte₀ = n.first; rest = n.rest; is = unfold sign in e; tells = unfold numeric in rw n.digit }

-- ---- no timestamp

-- what stands behind the digits of an int or a decimal
pub record Behind (u : List ℕ) : Type 0 where
  pub no_digit : NoDigit u
  pub no_t : starts (byte "T") u ≡ false
  pub no_minus : starts (byte "-") u ≡ false

behind-point : (u : List ℕ) → Behind (byte "." ∷ u)
unfolding is_digit starts
behind-point u = record { no_digit = refl; no_t = refl; no_minus = refl }

behind-d : (u : List ℕ) → Behind (byte "d" ∷ u)
unfolding is_digit starts
behind-d u = record { no_digit = refl; no_t = refl; no_minus = refl }

-- what ends a token is none of the bytes that stand in one
ended-not : (b : ℕ) (r : List ℕ) → ended r ≡ true → delimiter b ≡ false → starts b r ≡ false
ended-not b [] h e = unfold starts in refl
ended-not b (c ∷ r) h e = unfold starts in delimiter-not c b (unfold ended in h) e

behind-ended : (r : List ℕ) → ended r ≡ true → Behind r
behind-ended r h = record { no_digit = ended_no_digit r h; no_t = ended-not (byte "T") r h (unfold delimiter blank in refl); no_minus = ended-not (byte "-") r h (unfold delimiter blank in refl) }

pub ended_no_e : (r : List ℕ) → ended r ≡ true → starts (byte "e") r ≡ false
ended_no_e r h = ended-not (byte "e") r h (unfold delimiter blank in refl)

-- four digits of a timestamp may stand there, but neither `T` nor a minus behind them
abbrev NoYear : Option (ℕ × List ℕ) → Type 0
NoYear none = Unit
NoYear (some v) = (starts (byte "T") v.1 ≡ false) × (starts (byte "-") v.1 ≡ false)

no_year : (a n : ℕ) (w u : List ℕ) → Digits w → Behind u → NoYear (joined a n (w ++ u))
unfolding joined
no_year a zero w u d b = (digits-not (byte "T") w u (unfold is_digit in refl) d b.no_t, digits-not (byte "-") w u (unfold is_digit in refl) d b.no_minus)
no_year a (suc n) [] [] d b = tt
no_year a (suc n) [] (c ∷ u) d b = rw b.no_digit tt
no_year a (suc n) (c ∷ w) u d b = rw d.0 (no_year (a * 10 + (c - 48)) n w u d.1 b)

digits-timestamp : (w u : List ℕ) → Digits w → Behind u → timestamp (w ++ u) ≡ none
unfolding timestamp
digits-timestamp w u d b = go (joined 0 4 (w ++ u)) (no_year 0 4 w u d b)
  where
    go : (o : Option (ℕ × List ℕ)) → NoYear o → then o (λ y. if (starts (byte "T") y.1) (checked (dated 0 y.0 0 0) (drop 1 y.1)) (if (starts (byte "-") y.1) (behind_year y.0 (drop 1 y.1)) none)) ≡ none
    go none h = refl
    go (some v) h = rw (h.0, h.1)

minus-timestamp : (t : List ℕ) → timestamp (byte "-" ∷ t) ≡ none
unfolding timestamp joined is_digit
minus-timestamp t = refl

-- ---- ints and decimals

-- a written int or decimal: a number, and no timestamp
pub record Plain (t : List ℕ) : Type 0 where
  pub number : Number t
  pub no_timestamp : timestamp t ≡ none

-- without its sign
record Unsigned (t : List ℕ) : Type 0 where
  ds : List ℕ
  rest : List ℕ
  is : t ≡ ds ++ rest
  all : Digits ds
  some-digit : 1 ≤ length ds
  behind : Behind rest

plain : (neg : Bool) (t : List ℕ) → Unsigned t → Plain (sign neg ++ t)
plain neg t u = rw u.is record { number = made neg u.ds u.rest u.all u.some-digit; no_timestamp = go neg }
  where
    go : (b : Bool) → timestamp (sign b ++ (u.ds ++ u.rest)) ≡ none
    go true = unfold sign in minus-timestamp (u.ds ++ u.rest)
    go false = unfold sign in digits-timestamp u.ds u.rest u.all u.behind

whole-unsigned : (m : ℕ) (r : List ℕ) → Behind r → Unsigned (digits m ++ r)
whole-unsigned m r b = record { ds = digits m; rest = r; is = refl; all = digits-digits m; some-digit = digits-some m; behind = b }

pub int_plain : (n : ℤ) (r : List ℕ) → ended r ≡ true → Plain (int_text n ++ r)
unfolding int_text
int_plain (pos n) r h = unfold sign in plain false (digits n ++ r) (whole-unsigned n r (behind-ended r h))
int_plain (negsuc n) r h = unfold sign in plain true (digits (suc n) ++ r) (whole-unsigned (suc n) r (behind-ended r h))

-- the six forms
module _ (m : ℕ) (r : List ℕ) where
  pointed-unsigned : (k : ℕ) (x : List ℕ) → 1 ≤ k → Unsigned ((pointed (digits m) k ++ x) ++ r)
  unfolding pointed
  pointed-unsigned k x p = record {
    ds = take k (digits m);
    rest = byte "." ∷ (drop k (digits m) ++ (x ++ r));
    is = simp append_assoc;
    all = digits-take k (digits m) (digits-digits m);
    some-digit = omega (arith, length-take k (digits m), digits-some m);
    behind = behind-point (drop k (digits m) ++ (x ++ r));
  }

  power_unsigned : (x : List ℕ) → Unsigned ((digits m ++ (byte "d" ∷ x)) ++ r)
  power_unsigned x = record { ds = digits m; rest = byte "d" ∷ (x ++ r); is = append_assoc (digits m) (byte "d" ∷ x) r; all = digits-digits m; some-digit = digits-some m; behind = behind-d (x ++ r) }

  point-unsigned : Unsigned ((digits m ++ (byte "." ∷ [])) ++ r)
  point-unsigned = record { ds = digits m; rest = byte "." ∷ r; is = append_assoc (digits m) (byte "." ∷ []) r; all = digits-digits m; some-digit = digits-some m; behind = behind-point r }

  zero-unsigned : (x : List ℕ) → Unsigned ((byte "0" ∷ byte "." ∷ x) ++ r)
  unfolding is_digit
  zero-unsigned x = record { ds = byte "0" ∷ []; rest = byte "." ∷ (x ++ r); is = refl; all = (refl, tt); some-digit = omega arith; behind = behind-point (x ++ r) }

  above-unsigned : (k : ℕ) → Unsigned (above (digits m) (length (digits m)) k ++ r)
  unfolding above scientific
  above-unsigned zero = go (ltb 6 (length (digits m)))
    where
      go : (b : Bool) → Unsigned (if b (pointed (digits m) 1 ++ (byte "d" ∷ int_text (pos (length (digits m) - 1)))) (digits m ++ (byte "." ∷ [])) ++ r)
      go true = pointed-unsigned 1 (byte "d" ∷ int_text (pos (length (digits m) - 1))) (omega arith)
      go false = point-unsigned
  above-unsigned (suc k) = power_unsigned (int_text (pos (suc k)))

  below-unsigned : (k : ℕ) → Unsigned (below (digits m) (length (digits m)) k ++ r)
  unfolding below scientific
  below-unsigned k = go (ltb k (length (digits m))) refl (leb k (length (digits m) + 5))
    where
      inside : (j : ℕ) → 1 ≤ j → Unsigned (pointed (digits m) j ++ r)
      inside j p = unfold pointed in record {
        ds = take j (digits m);
        rest = byte "." ∷ (drop j (digits m) ++ r);
        is = append_assoc (take j (digits m)) (byte "." ∷ drop j (digits m)) r;
        all = digits-take j (digits m) (digits-digits m);
        some-digit = omega (arith, length-take j (digits m), digits-some m);
        behind = behind-point (drop j (digits m) ++ r);
      }

      go : (b : Bool) → ltb k (length (digits m)) ≡ b → (c : Bool)
          → Unsigned (if b (pointed (digits m) (length (digits m) - k)) (if c (byte "0" ∷ byte "." ∷ (replicate (k - length (digits m)) (byte "0") ++ digits m)) (pointed (digits m) 1 ++ (byte "d" ∷ int_text (negsuc (k - length (digits m)))))) ++ r)
      go true e c = let l = ltb-true k (length (digits m)) e in inside (length (digits m) - k) (omega arith)
      go false e true = zero-unsigned (replicate (k - length (digits m)) (byte "0") ++ digits m)
      go false e false = pointed-unsigned 1 (byte "d" ∷ int_text (negsuc (k - length (digits m)))) (omega arith)

form-unsigned : (m : ℕ) (e : ℤ) (r : List ℕ) → Unsigned (form (digits m) (length (digits m)) e ++ r)
unfolding form
form-unsigned m (pos k) r = above-unsigned m r k
form-unsigned m (negsuc k) r = below-unsigned m r (suc k)

pub decimal_plain : (neg : Bool) (m : ℕ) (e : ℤ) (r : List ℕ) → Plain (decimal_text neg m e ++ r)
unfolding decimal_text
decimal_plain neg m e r =
    rw (append_assoc (sign neg) (form (digits m) (length (digits m)) e) r) (plain neg (form (digits m) (length (digits m)) e ++ r) (form-unsigned m e r))

-- ---- timestamps: a year of four digits, and `T` or a minus

record Dated (r t : List ℕ) : Type 0 where
  number : Number (t ++ r)

year_dated : (y : ℕ) (u r : List ℕ) → Dated r (pad 4 y ++ u)
year_dated y u r = record { number = rw (append_assoc (pad 4 y) u r) (unfold sign in made false (pad 4 y) (u ++ r) (digits-pad 4 y) (omega (arith, length-pad 4 y))) }

pick : {r s t : List ℕ} (b : Bool) → Dated r s → Dated r t → Dated r (if b s t)
pick true n o = n
pick false n o = o

timestamp-dated : (x : Timestamp) (r : List ℕ) → Dated r (timestamp_text x)
unfolding timestamp_text year_and_month date date_hour_and_minute starts
timestamp-dated x r =
    pick (eqb x.precision 0) (year_dated x.year _ r)
    (pick (eqb x.precision 1) (simp append_assoc (year_dated x.year _ r))
    (pick (eqb x.precision 2) (simp append_assoc (year_dated x.year _ r))
    (pick (eqb x.precision 3) (simp append_assoc (year_dated x.year _ r))
    (simp append_assoc (year_dated x.year _ r)))))

pub timestamp-number : (x : Timestamp) (r : List ℕ) → Number (timestamp_text x ++ r)
timestamp-number x r = (timestamp-dated x r).number
