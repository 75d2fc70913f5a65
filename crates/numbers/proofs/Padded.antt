-- Zero padding: the text of a well-formed timestamp is the one that the Rust's `write_zero_padded` gives. Assumes nothing.
use mathlib.Core.Path.{◌≡◌, refl, ap, ◌∙◌}
use mathlib.Core.Bool.{Bool, true, false}
use mathlib.Core.List.{List, ◌∷◌}
use Prim.Native.Nat.{ℕ, zero, suc, ◌/◌, ◌%◌, ◌^◌, ◌≤◌, ◌<◌}
use native.Mathlib.Nat.{pow-le-pow_right}
use native.Mathlib.Omega.{arith}
use lib.Dec.{eqb, lit<}
use lib.IntN.{ℤ, pos, negsuc}
use Rattle.output.specs.Logic.{if, byte, ascii}
use Rattle.text_rules.specs.Digits.{pad, zero_padded}
use Rattle.text_rules.proofs.DigitCode.{zero-padded}
use Rattle.numbers.specs.declared.timestamp.Timestamp.{Timestamp}
use Rattle.numbers.specs.Timestamp.{unknown, offset_well, well_formed, year_and_month, date, hour_and_minute, date_hour_and_minute, fractional_seconds, offset_text, timestamp_text}
use Rattle.numbers.specs.Padded.{padded_month, padded_date, padded_clock, padded_fraction, padded_offset, padded_timestamp}
use Rattle.numbers.proofs.Calendar.{west-small, east_small, fields, small}

-- ---- fields

year_same : (n : ℕ) → n < 10000 → zero_padded 4 n ≡ pad 4 n
year_same n h = zero-padded 4 n (omega arith) h (omega arith)

pair_same : (n : ℕ) → n < 100 → zero_padded 2 n ≡ pad 2 n
pair_same n h = zero-padded 2 n (omega arith) h (omega arith)

month_same : (y m : ℕ) → y < 10000 → m < 100 → padded_month y m ≡ year_and_month y m
unfolding padded_month year_and_month
month_same y m hy hm = rw (year_same y hy, pair_same m hm)

date-same : (y m d : ℕ) → y < 10000 → m < 100 → d < 100 → padded_date y m d ≡ date y m d
unfolding padded_date date
date-same y m d hy hm hd = rw (month_same y m hy hm, pair_same d hd)

clock-same : (h m : ℕ) → h < 100 → m < 100 → padded_clock h m ≡ hour_and_minute h m
unfolding padded_clock hour_and_minute
clock-same h m hh hm = rw (pair_same h hh, pair_same m hm)

fraction-same : (n f : ℕ) → n ≤ 9 → f < 10 ^ n → padded_fraction n f ≡ fractional_seconds n f
unfolding padded_fraction fractional_seconds
fraction-same zero f h l = refl
fraction-same (suc n) f h l =
    let w : 10 ^ suc n ≤ 10 ^ 9 = pow-le-pow_right (lit< tt) h in
    rw (zero-padded (suc n) f (omega arith) l (omega arith))

offset_same : (p : ℕ) (o : ℤ) → offset_well p o ≡ true → padded_offset o ≡ offset_text o
unfolding padded_offset offset_text
offset_same p (negsuc m) h = let l = west-small p m h in rw (clock-same (suc m / 60) (suc m % 60) (omega arith) (omega arith))
offset_same p (pos m) h = go (eqb m unknown) refl
  where
    unknown-same : padded_clock 0 0 ≡ ascii "00:00"
    unknown-same = clock-same 0 0 (omega arith) (omega arith) ∙ unfold hour_and_minute pad in refl

    go : (b : Bool) → eqb m unknown ≡ b
        → if b (byte "-" ∷ padded_clock 0 0) (byte "+" ∷ padded_clock (m / 60) (m % 60)) ≡ if b (ascii "-00:00") (byte "+" ∷ hour_and_minute (m / 60) (m % 60))
    go true e = ap (λ (l : List ℕ). byte "-" ∷ l) unknown-same
    go false e = let l = east_small p m h e in rw (clock-same (m / 60) (m % 60) (omega arith) (omega arith))

-- ---- the text

pub padded-same : (x : Timestamp) → well_formed x ≡ true → padded_timestamp x ≡ timestamp_text x
unfolding padded_timestamp timestamp_text date_hour_and_minute
padded-same x h =
    let f = fields x h in
    let s = small x f in
    rw (
      year_same x.year (omega arith),
      month_same x.year x.month (omega arith) (omega arith),
      date-same x.year x.month x.day (omega arith) (omega arith) (omega arith),
      clock-same x.hour x.minute (omega arith) (omega arith),
      pair_same x.second (omega arith),
      fraction-same x.digits x.fraction s.digits s.fraction,
      offset_same x.precision x.offset f.offset,
    )
