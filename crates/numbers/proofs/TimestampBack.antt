-- What is read is well formed, and what is written reads back, whatever stands behind it that ends a value. Assumes nothing.
use mathlib.Core.Path.{◌≡◌, refl, sym, ap, ◌∙◌}
use mathlib.Core.Bool.{Bool, true, false, ◌&&◌}
use mathlib.Core.List.{List, [], ◌∷◌, ◌++◌, append_assoc}
use mathlib.Core.Option.{Option, none, some}
use Prim.Native.Nat.{ℕ, zero, suc, ◌+◌, ◌*◌, ◌/◌, ◌%◌, ◌^◌, ◌≤◌, ◌<◌}
use native.Mathlib.Nat.{mod-eq_of_lt}
use native.Mathlib.Omega.{arith}
use lib.Dec.{leb, eqb}
use lib.IntN.{ℤ, pos, negsuc}
use lib.ListN.{length, drop}
use borrow.Author.Tests.{le-leb, lt-leb, eqb-true, eq-eqb, ne_eqb}
use Rattle.output.specs.Logic.{if, then, byte, ascii}
use Rattle.text_rules.specs.Digits.{pad, is_digit, run, behind_digits, number}
use Rattle.text_rules.specs.Texts.{starts, ended}
use Rattle.text_rules.proofs.DigitLaws.{never, Digits, NoDigit, run-digits, past_digits, number-pad, length-pad, digits-pad}
use Rattle.numbers.specs.declared.timestamp.Timestamp.{Timestamp}
use Rattle.numbers.specs.Timestamp.{unknown, field_well, offset_well, well_formed, year_and_month, date, hour_and_minute, date_hour_and_minute, fractional_seconds, offset_text, timestamp_text}
use Rattle.numbers.specs.TimestampRead.{ReadTimestamp, joined, fixed, starts_digit, clock, dated, timed, zoned, checked, minutes, offset_of, fraction_of, second_of, time_of, day_of, behind_month, behind_year, timestamp}
use Rattle.numbers.proofs.Calendar.{west-small, east_small, Fields, fields, small, same-fields}
use Rattle.numbers.proofs.DecimalBack.{ended_no_digit}
use Rattle.numbers.proofs.TimestampPlaces.{joined-digits}

-- ---- what is read is well formed

abbrev Well : ReadTimestamp → Type 0
Well none = Unit
Well (some v) = well_formed v.0 ≡ true

well_if : (b : Bool) (o p : ReadTimestamp) → Well o → Well p → Well (if b o p)
well_if true o p h g = h
well_if false o p h g = g

well_then : {A : Type 0} (o : Option A) (f : A → ReadTimestamp) → ((a : A) → Well (f a)) → Well (then o f)
well_then none f h = tt
well_then (some a) f h = h a

well_checked : (x : Timestamp) (t : List ℕ) → Well (checked x t)
unfolding checked
well_checked x t = go (well_formed x) refl
  where
    go : (b : Bool) → well_formed x ≡ b → Well (if b (some (x, t)) none)
    go true e = e
    go false e = tt

well_offset : (x : Timestamp) (t : List ℕ) → Well (offset_of x t)
unfolding offset_of
well_offset x t =
    well_if (starts (byte "Z") t) _ _ (well_checked _ _)
    (well_if (starts (byte "+") t) _ _ (well_then (minutes (drop 1 t)) _ (λ m. well_checked _ _))
    (well_if (starts (byte "-") t) _ _ (well_then (minutes (drop 1 t)) _ (λ m. well_checked _ _)) tt))

well_fraction : (x : Timestamp) (h m s : ℕ) (ds t : List ℕ) → Well (fraction_of x h m s ds t)
unfolding fraction_of
well_fraction x h m s ds t = well_if (leb 1 (length ds) && leb (length ds) 9) _ _ (well_offset _ _) tt

well_second : (x : Timestamp) (h m : ℕ) (t : List ℕ) → Well (second_of x h m t)
unfolding second_of
well_second x h m t = well_then (fixed 2 t) _ (λ s. well_if (starts (byte ".") s.1) _ _ (well_fraction _ _ _ _ _ _) (well_offset _ _))

well_time : (x : Timestamp) (t : List ℕ) → Well (time_of x t)
unfolding time_of
well_time x t = well_then (clock t) _ (λ c. well_if (starts (byte ":") c.1) _ _ (well_second _ _ _ _) (well_offset _ _))

well_day : (x : Timestamp) (t : List ℕ) → Well (day_of x t)
unfolding day_of
well_day x t = well_if (starts_digit t) _ _ (well_time _ _) (well_checked _ _)

well_month : (y m : ℕ) (t : List ℕ) → Well (behind_month y m t)
unfolding behind_month
well_month y m t = well_then (fixed 2 t) _ (λ d. well_if (starts (byte "T") d.1) _ _ (well_day _ _) tt)

well_year : (y : ℕ) (t : List ℕ) → Well (behind_year y t)
unfolding behind_year
well_year y t =
    well_then (fixed 2 t) _ (λ m.
    well_if (starts (byte "T") m.1) _ _ (well_checked _ _) (well_if (starts (byte "-") m.1) _ _ (well_month _ _ _) tt))

well_timestamp : (t : List ℕ) → Well (timestamp t)
unfolding timestamp
well_timestamp t =
    well_then (fixed 4 t) _ (λ y.
    well_if (starts (byte "T") y.1) _ _ (well_checked _ _) (well_if (starts (byte "-") y.1) _ _ (well_year _ _) tt))

pub timestamp_well : (t : List ℕ) (x : Timestamp) (r : List ℕ) → timestamp t ≡ some (x, r) → well_formed x ≡ true
timestamp_well t x r h = rw h at (well_timestamp t)

-- ---- the parts of the text read back

fixed-pad : (w n : ℕ) (r : List ℕ) → n < 10 ^ w → fixed w (pad w n ++ r) ≡ some (n, r)
fixed-pad w n r h =
    let m : n % 10 ^ w ≡ n = mod-eq_of_lt h in
    let e : number 0 (pad w n) ≡ n = number-pad w n 0 ∙ omega arith in
    rw (length-pad w n, e) at (joined-digits 0 (pad w n) r (digits-pad w n))

clock_back : (h m : ℕ) (r : List ℕ) → h < 100 → m < 100 → clock (hour_and_minute h m ++ r) ≡ some ((h, m), r)
unfolding clock hour_and_minute starts
clock_back h m r hh hm = rw (append_assoc (pad 2 h) (byte ":" ∷ pad 2 m) r, fixed-pad 2 h (byte ":" ∷ (pad 2 m ++ r)) hh, fixed-pad 2 m r hm)

minutes_back : (m : ℕ) (r : List ℕ) → m < 1440 → minutes (hour_and_minute (m / 60) (m % 60) ++ r) ≡ some (m, r)
unfolding minutes
minutes_back m r h =
    let e : m / 60 * 60 + m % 60 ≡ m = omega arith in
    rw (clock_back (m / 60) (m % 60) r (omega arith) (omega arith), le-leb (m / 60) 23 (omega arith), le-leb (m % 60) 59 (omega arith), e)

offset_back : (x : Timestamp) (p : ℕ) (o : ℤ) (r : List ℕ) → offset_well p o ≡ true → offset_of x (offset_text o ++ r) ≡ checked (zoned x o) r
unfolding offset_of offset_text starts minutes clock joined is_digit
offset_back x p (negsuc m) r h = rw (minutes_back (suc m) r (west-small p m h))
offset_back x p (pos m) r h = go (eqb m unknown) refl
  where
    go : (b : Bool) → eqb m unknown ≡ b → offset_of x (if b (ascii "-00:00") (byte "+" ∷ hour_and_minute (m / 60) (m % 60)) ++ r) ≡ checked (zoned x (pos m)) r
    go true e = ap (λ (k : ℕ). checked (zoned x (pos k)) r) (sym (eqb-true m unknown e))
    go false e = rw (minutes_back m r (east_small p m h e))

-- an offset starts with a sign
sign-starts : (b : ℕ) (o : ℤ) (r : List ℕ) → eqb (byte "-") b ≡ false → eqb (byte "+") b ≡ false → starts b (offset_text o ++ r) ≡ false
unfolding offset_text starts
sign-starts b (negsuc m) r h g = h
sign-starts b (pos m) r h g = go (eqb m unknown)
  where
    go : (t : Bool) → starts b (if t (ascii "-00:00") (byte "+" ∷ hour_and_minute (m / 60) (m % 60)) ++ r) ≡ false
    go true = h
    go false = g

sign_no_digit : (o : ℤ) (r : List ℕ) → NoDigit (offset_text o ++ r)
unfolding offset_text is_digit
sign_no_digit (negsuc m) r = refl
sign_no_digit (pos m) r = go (eqb m unknown)
  where
    go : (t : Bool) → NoDigit (if t (ascii "-00:00") (byte "+" ∷ hour_and_minute (m / 60) (m % 60)) ++ r)
    go true = refl
    go false = refl

fraction_back : (x : Timestamp) (h m s n f : ℕ) (r : List ℕ) → 1 ≤ n → n ≤ 9 → f < 10 ^ n → NoDigit r
    → fraction_of x h m s (run (pad n f ++ r)) (behind_digits (pad n f ++ r)) ≡ offset_of (timed 4 x h m s n f) r
unfolding fraction_of
fraction_back x h m s n f r lo hi hf hr =
    let k : f % 10 ^ n ≡ f = mod-eq_of_lt hf in
    let e : number 0 (pad n f) ≡ f = number-pad n f 0 ∙ omega arith in
    rw (run-digits (pad n f) r (digits-pad n f) hr, past_digits (pad n f) r (digits-pad n f) hr, e, length-pad n f, le-leb 1 n lo, le-leb n 9 hi)

second_back : (x : Timestamp) (h m s n f : ℕ) (o : ℤ) (r : List ℕ) → s < 100 → n ≤ 9 → f < 10 ^ n
    → second_of x h m (pad 2 s ++ (fractional_seconds n f ++ (offset_text o ++ r))) ≡ offset_of (timed 4 x h m s n f) (offset_text o ++ r)
unfolding second_of fractional_seconds starts
second_back x h m s zero f o r hs hn hf =
    let e : 0 ≡ f = omega arith in
    rw (fixed-pad 2 s (offset_text o ++ r) hs, sign-starts (byte ".") o r refl refl) (ap (λ (k : ℕ). offset_of (timed 4 x h m s 0 k) (offset_text o ++ r)) e)
second_back x h m s (suc n) f o r hs hn hf =
    rw (ne_eqb (suc n) 0 (λ (e : suc n ≡ 0). omega arith), fixed-pad 2 s (byte "." ∷ (pad (suc n) f ++ (offset_text o ++ r))) hs)
    (fraction_back x h m s (suc n) f (offset_text o ++ r) (omega arith) hn hf (sign_no_digit o r))

-- ---- the date

-- the fields of a date that are read, each as wide as it is written
module _ (y m d : ℕ) (hy : y < 10000) (hm : m < 100) (hd : d < 100) where
  year_back : (r : List ℕ) → timestamp (pad 4 y ++ (byte "T" ∷ r)) ≡ checked (dated 0 y 0 0) r
  unfolding timestamp starts
  year_back r = rw (fixed-pad 4 y (byte "T" ∷ r) hy)

  behind-year : (r : List ℕ) → timestamp (pad 4 y ++ (byte "-" ∷ r)) ≡ behind_year y r
  unfolding timestamp starts
  behind-year r = rw (fixed-pad 4 y (byte "-" ∷ r) hy)

  month_back : (r : List ℕ) → behind_year y (pad 2 m ++ (byte "T" ∷ r)) ≡ checked (dated 1 y m 0) r
  unfolding behind_year starts
  month_back r = rw (fixed-pad 2 m (byte "T" ∷ r) hm)

  behind-month : (r : List ℕ) → behind_year y (pad 2 m ++ (byte "-" ∷ r)) ≡ behind_month y m r
  unfolding behind_year starts
  behind-month r = rw (fixed-pad 2 m (byte "-" ∷ r) hm)

  day_back : (r : List ℕ) → behind_month y m (pad 2 d ++ (byte "T" ∷ r)) ≡ day_of (dated 2 y m d) r
  unfolding behind_month starts
  day_back r = rw (fixed-pad 2 d (byte "T" ∷ r) hd)

  date_back : (r : List ℕ) → timestamp (date y m d ++ (byte "T" ∷ r)) ≡ day_of (dated 2 y m d) r
  unfolding date year_and_month
  date_back r =
      ap timestamp (simp append_assoc) ∙ behind-year (pad 2 m ++ (byte "-" ∷ (pad 2 d ++ (byte "T" ∷ r)))) ∙ behind-month (pad 2 d ++ (byte "T" ∷ r)) ∙ day_back r

-- ---- fields finer than the precision

-- a field that is finer than the precision is 0
finer : (k p lo hi n : ℕ) → p < k → field_well (leb k p) lo hi n ≡ true → n ≡ 0
unfolding field_well
finer k p lo hi n l h = eqb-true n 0 (rw (lt-leb k p l) at h)

-- below precision 3 the offset is unknown
unknown-below : (p : ℕ) (o : ℤ) → p < 3 → offset_well p o ≡ true → o ≡ pos unknown
unfolding offset_well
unknown-below p (negsuc m) l h = never (sym h ∙ rw (lt-leb 3 p l))
unknown-below p (pos m) l h = go (eqb m unknown) refl
  where
    go : (b : Bool) → eqb m unknown ≡ b → pos m ≡ pos unknown
    go true e = ap pos (eqb-true m unknown e)
    go false e = never (sym h ∙ rw (e, lt-leb 3 p l))

-- ---- a well-formed timestamp reads back, by its precision

checked_well : (x : Timestamp) (r : List ℕ) → well_formed x ≡ true → checked x r ≡ some (x, r)
unfolding checked
checked_well x r h = rw h

-- a digit ends no value
no_digit-ended : (r : List ℕ) → ended r ≡ true → starts_digit r ≡ false
unfolding starts_digit
no_digit-ended [] h = refl
no_digit-ended (c ∷ r) h = ended_no_digit (c ∷ r) h

-- one digit or more start with one
starts-pad : (w n : ℕ) (r : List ℕ) → starts_digit (pad (suc w) n ++ r) ≡ true
unfolding starts_digit
starts-pad w n r = go (pad (suc w) n) (length-pad (suc w) n) (digits-pad (suc w) n)
  where
    go : (s : List ℕ) → length s ≡ suc w → Digits s → starts_digit (s ++ r) ≡ true
    go [] l d = let bad : ⊥ = omega arith in absurd bad
    go (c ∷ s) l d = d.0

regroup : (a b c d e f : List ℕ) → ((((a ++ b) ++ c) ++ d) ++ e) ++ f ≡ a ++ (b ++ (c ++ (d ++ (e ++ f))))
regroup a b c d e f = simp append_assoc

starts-clock : (h m : ℕ) (t : List ℕ) → starts_digit (hour_and_minute h m ++ t) ≡ true
unfolding hour_and_minute
starts-clock h m t = rw (append_assoc (pad 2 h) (byte ":" ∷ pad 2 m) t) (starts-pad 1 h (byte ":" ∷ (pad 2 m ++ t)))

module _ (x : Timestamp) (r : List ℕ) (f : Fields x) (e : ended r ≡ true) where
  zero-fraction : x.precision < 4 → x.fraction ≡ 0
  zero-fraction l =
      let n : x.digits ≡ 0 = finer 4 x.precision 0 9 x.digits l f.digits in
      let c : x.fraction < 10 ^ 0 = rw n at (small x f).fraction in
      omega arith

  wide_year : x.year < 10000
  wide_year = omega (arith, small x f)

  wide_month : x.month < 100
  wide_month = omega (arith, small x f)

  wide_day : x.day < 100
  wide_day = omega (arith, small x f)

  -- a date alone
  date_alone : (m d : ℕ) → m ≡ x.month → d ≡ x.day → x.precision < 3 → dated x.precision x.year m d ≡ x
  date_alone m d hm hd l =
      let p = x.precision in
      same-fields (dated p x.year m d) x refl refl hm hd
      (sym (finer 3 p 0 23 x.hour l f.hour))
      (sym (finer 3 p 0 59 x.minute l f.minute))
      (sym (finer 4 p 0 59 x.second (omega arith) f.second))
      (sym (unknown-below p x.offset l f.offset))
      (sym (finer 4 p 0 9 x.digits (omega arith) f.digits))
      (sym (zero-fraction (omega arith)))

  back-0 : x.precision ≡ 0 → timestamp (timestamp_text x ++ r) ≡ checked x r
  unfolding timestamp_text
  back-0 p =
      rw (eq-eqb x.precision 0 p, append_assoc (pad 4 x.year) (ascii "T") r)
      (year_back x.year x.month x.day wide_year wide_month wide_day r
      ∙ ap (λ (k : ℕ). checked (dated k x.year 0 0) r) (sym p)
      ∙ ap (λ (y : Timestamp). checked y r)
      (date_alone 0 0 (sym (finer 1 x.precision 1 12 x.month (omega arith) f.month)) (sym (finer 2 x.precision 1 _ x.day (omega arith) f.day)) (omega arith)))

  back-1 : x.precision ≡ 1 → timestamp (timestamp_text x ++ r) ≡ checked x r
  unfolding timestamp_text year_and_month
  back-1 p =
      let y = x.year in
      let m = x.month in
      rw (ne_eqb x.precision 0 (λ (z : x.precision ≡ 0). omega arith), eq-eqb x.precision 1 p)
      (ap timestamp (simp append_assoc)
      ∙ behind-year y m x.day wide_year wide_month wide_day (pad 2 m ++ (byte "T" ∷ r))
      ∙ month_back y m x.day wide_year wide_month wide_day r
      ∙ ap (λ (k : ℕ). checked (dated k y m 0) r) (sym p)
      ∙ ap (λ (z : Timestamp). checked z r) (date_alone m 0 refl (sym (finer 2 x.precision 1 _ x.day (omega arith) f.day)) (omega arith)))

  back-2 : x.precision ≡ 2 → timestamp (timestamp_text x ++ r) ≡ checked x r
  unfolding timestamp_text day_of
  back-2 p =
      rw (
        ne_eqb x.precision 0 (λ (z : x.precision ≡ 0). omega arith),
        ne_eqb x.precision 1 (λ (z : x.precision ≡ 1). omega arith),
        eq-eqb x.precision 2 p,
        append_assoc (date x.year x.month x.day) (ascii "T") r,
      )
      (date_back x.year x.month x.day wide_year wide_month wide_day r
      ∙ rw (no_digit-ended r e) (ap (λ (k : ℕ). checked (dated k x.year x.month x.day) r) (sym p))
      ∙ ap (λ (z : Timestamp). checked z r) (date_alone x.month x.day refl refl (omega arith)))

  -- behind the date, the time
  abbrev day : Timestamp
  day = dated 2 x.year x.month x.day

  time_back : (t : List ℕ) → day_of day (hour_and_minute x.hour x.minute ++ t)
      ≡ if (starts (byte ":") t) (second_of day x.hour x.minute (drop 1 t)) (offset_of (timed 3 day x.hour x.minute 0 0 0) t)
  unfolding day_of time_of
  time_back t =
      let s = small x f in
      rw (starts-clock x.hour x.minute t, clock_back x.hour x.minute t (omega arith) (omega arith))

  back-3 : x.precision ≡ 3 → timestamp (timestamp_text x ++ r) ≡ checked x r
  unfolding timestamp_text date_hour_and_minute
  back-3 p =
      let o = x.offset in
      let hm = hour_and_minute x.hour x.minute in
      rw (
        ne_eqb x.precision 0 (λ (z : x.precision ≡ 0). omega arith),
        ne_eqb x.precision 1 (λ (z : x.precision ≡ 1). omega arith),
        ne_eqb x.precision 2 (λ (z : x.precision ≡ 2). omega arith),
        eq-eqb x.precision 3 p,
      )
      (ap timestamp (simp append_assoc)
      ∙ date_back x.year x.month x.day wide_year wide_month wide_day (hm ++ (offset_text o ++ r))
      ∙ time_back (offset_text o ++ r)
      ∙ rw (sign-starts (byte ":") o r refl refl) (offset_back (timed 3 day x.hour x.minute 0 0 0) x.precision o r f.offset)
      ∙ ap (λ (z : Timestamp). checked z r)
      (same-fields (zoned (timed 3 day x.hour x.minute 0 0 0) o) x (sym p) refl refl refl refl refl
      (sym (finer 4 x.precision 0 59 x.second (omega arith) f.second))
      refl
      (sym (finer 4 x.precision 0 9 x.digits (omega arith) f.digits))
      (sym (zero-fraction (omega arith)))))

  back-4 : x.precision ≡ 4 → timestamp (timestamp_text x ++ r) ≡ checked x r
  unfolding timestamp_text date_hour_and_minute starts
  back-4 p =
      let o = x.offset in
      let hm = hour_and_minute x.hour x.minute in
      let t = pad 2 x.second ++ (fractional_seconds x.digits x.fraction ++ (offset_text o ++ r)) in
      let s = small x f in
      rw (
        ne_eqb x.precision 0 (λ (z : x.precision ≡ 0). omega arith),
        ne_eqb x.precision 1 (λ (z : x.precision ≡ 1). omega arith),
        ne_eqb x.precision 2 (λ (z : x.precision ≡ 2). omega arith),
        ne_eqb x.precision 3 (λ (z : x.precision ≡ 3). omega arith),
      )
      (ap timestamp (regroup (date x.year x.month x.day) (byte "T" ∷ hm) (byte ":" ∷ pad 2 x.second) (fractional_seconds x.digits x.fraction) (offset_text o) r)
      ∙ date_back x.year x.month x.day wide_year wide_month wide_day (hm ++ (byte ":" ∷ t))
      ∙ time_back (byte ":" ∷ t)
      ∙ second_back day x.hour x.minute x.second x.digits x.fraction o r (omega arith) s.digits s.fraction
      ∙ offset_back (timed 4 day x.hour x.minute x.second x.digits x.fraction) x.precision o r f.offset
      ∙ ap (λ (z : Timestamp). checked z r)
      (same-fields (zoned (timed 4 day x.hour x.minute x.second x.digits x.fraction) o) x (sym p) refl refl refl refl refl refl refl refl refl))

  by_precision : (p : ℕ) → x.precision ≡ p → p ≤ 4 → timestamp (timestamp_text x ++ r) ≡ checked x r
  by_precision zero h l = back-0 h
  by_precision (suc zero) h l = back-1 h
  by_precision (suc (suc zero)) h l = back-2 h
  by_precision (suc (suc (suc zero))) h l = back-3 h
  by_precision (suc (suc (suc (suc zero)))) h l = back-4 h
  by_precision (suc (suc (suc (suc (suc p))))) h l = let bad : ⊥ = omega arith in absurd bad

-- what is written of a well-formed timestamp reads back as itself
pub timestamp_back : (x : Timestamp) (r : List ℕ) → well_formed x ≡ true → ended r ≡ true → timestamp (timestamp_text x ++ r) ≡ some (x, r)
timestamp_back x r h e =
    let f = fields x h in
    by_precision x r f e x.precision refl (small x f).precision ∙ checked_well x r h
