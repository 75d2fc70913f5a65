-- Laws of the fields of a timestamp: what `well_formed` says of each. Assumes nothing.
use mathlib.Core.Path.{◌≡◌, refl, sym}
use mathlib.Core.Bool.{Bool, true, false, ◌&&◌, ◌||◌}
use Prim.Native.Nat.{ℕ, suc, ◌^◌, ◌≤◌, ◌<◌}
use native.Mathlib.Omega.{arith}
use lib.Dec.{leb, ltb, eqb}
use lib.IntN.{pos, negsuc}
use borrow.Author.Tests.{le-leb, lt-leb, leb-true, ltb-true, eqb-true, ne_eqb}
use Rattle.output.specs.Logic.{if}
use Rattle.text_rules.proofs.DigitLaws.{never}
use Rattle.numbers.specs.declared.timestamp.Timestamp.{Timestamp}
use Rattle.numbers.specs.Timestamp.{unknown, is_leap, days_in, field_well, date_well, time_well, offset_well, fraction_well, well_formed}

both : (a b : Bool) → a && b ≡ true → (a ≡ true) × (b ≡ true)
both true b h = (refl, h)
both false b h = never (sym h)

-- ---- a field

-- what is past the highest is no field, reached or not
pub no_field : (b : Bool) (hi n : ℕ) → hi < n → field_well b 0 hi n ≡ false
unfolding field_well
no_field true hi n h = rw (le-leb 0 n (omega arith), lt-leb n hi h)
no_field false hi n h = ne_eqb n 0 (λ (e : n ≡ 0). omega arith)

field_most : (b : Bool) (lo hi n : ℕ) → field_well b lo hi n ≡ true → n ≤ hi
unfolding field_well
field_most true lo hi n h = leb-true n hi (both (leb lo n) (leb n hi) h).1
field_most false lo hi n h = let e = eqb-true n 0 h in omega arith

days_most : (y m : ℕ) → days_in y m ≤ 31
unfolding days_in
days_most y m = go (eqb m 2) (is_leap y) (eqb m 4 || eqb m 6 || eqb m 9 || eqb m 11)
  where
    go : (a b c : Bool) → if a (if b 29 28) (if c 30 31) ≤ 31
    go true true c = omega arith
    go true false c = omega arith
    go false b true = omega arith
    go false b false = omega arith

-- an offset is unknown, or has at most 1439 minutes
pub west-small : (p m : ℕ) → offset_well p (negsuc m) ≡ true → suc m < 1440
unfolding offset_well
west-small p m h = let l = leb-true (suc m) 1439 (both (leb 3 p) (leb (suc m) 1439) h).1 in omega arith

pub east_small : (p m : ℕ) → offset_well p (pos m) ≡ true → eqb m unknown ≡ false → m < 1440
unfolding offset_well
east_small p m h e = let l = leb-true m 1439 (both (leb 3 p) (leb m 1439) (rw e at h)).1 in omega arith

-- ---- all of them

pub record Fields (x : Timestamp) : Type 0 where
  pub precision : leb x.precision 4 ≡ true
  pub year : field_well true 1 9999 x.year ≡ true
  pub month : field_well (leb 1 x.precision) 1 12 x.month ≡ true
  pub day : field_well (leb 2 x.precision) 1 (days_in x.year x.month) x.day ≡ true
  pub hour : field_well (leb 3 x.precision) 0 23 x.hour ≡ true
  pub minute : field_well (leb 3 x.precision) 0 59 x.minute ≡ true
  pub second : field_well (leb 4 x.precision) 0 59 x.second ≡ true
  pub offset : offset_well x.precision x.offset ≡ true
  pub digits : field_well (leb 4 x.precision) 0 9 x.digits ≡ true
  pub fraction : ltb x.fraction (10 ^ x.digits) ≡ true

four : (a b c d : Bool) → a && b && c && d ≡ true → (a ≡ true) × (b ≡ true) × (c ≡ true) × (d ≡ true)
four true true c d h = let x = both c d h in (refl, refl, x.0, x.1)
four true false c d h = never (sym h)
four false b c d h = never (sym h)

pub fields : (x : Timestamp) → well_formed x ≡ true → Fields x
unfolding well_formed date_well time_well fraction_well
fields x h =
    let p = x.precision in
    let w =
    four (date_well p x.year x.month x.day) (time_well p x.hour x.minute x.second) (offset_well p x.offset) (fraction_well p x.digits x.fraction) h in
    let a =
    four (leb p 4) (field_well true 1 9999 x.year) (field_well (leb 1 p) 1 12 x.month) (field_well (leb 2 p) 1 (days_in x.year x.month) x.day) w.0 in
    let b = four true (field_well (leb 3 p) 0 23 x.hour) (field_well (leb 3 p) 0 59 x.minute) (field_well (leb 4 p) 0 59 x.second) w.1 in
    let f = both (field_well (leb 4 p) 0 9 x.digits) (ltb x.fraction (10 ^ x.digits)) w.3 in
    record {
      precision = a.0;
      year = a.1;
      month = a.2;
      day = a.3;
      hour = b.1;
      minute = b.2;
      second = b.3;
      offset = w.2;
      digits = f.0;
      fraction = f.1;
    }

-- how large they are
pub record Small (x : Timestamp) : Type 0 where
  pub precision : x.precision ≤ 4
  pub year : x.year ≤ 9999
  pub month : x.month ≤ 12
  pub day : x.day ≤ 31
  pub hour : x.hour ≤ 23
  pub minute : x.minute ≤ 59
  pub second : x.second ≤ 59
  pub digits : x.digits ≤ 9
  pub fraction : x.fraction < 10 ^ x.digits

pub small : (x : Timestamp) → Fields x → Small x
small x f = record {
  precision = leb-true _ _ f.precision;
  year = field_most _ 1 9999 _ f.year;
  month = field_most _ 1 12 _ f.month;
  day = omega (arith, field_most _ 1 _ x.day f.day, days_most x.year x.month);
  hour = field_most _ 0 23 _ f.hour;
  minute = field_most _ 0 59 _ f.minute;
  second = field_most _ 0 59 _ f.second;
  digits = field_most _ 0 9 _ f.digits;
  fraction = ltb-true _ _ f.fraction;
}

-- timestamps are equal field by field
pub same-fields : (x y : Timestamp) → x.precision ≡ y.precision → x.year ≡ y.year → x.month ≡ y.month → x.day ≡ y.day → x.hour ≡ y.hour → x.minute ≡ y.minute
    → x.second ≡ y.second → x.offset ≡ y.offset → x.digits ≡ y.digits → x.fraction ≡ y.fraction → x ≡ y
same-fields x y p ye m d h mi s o n f = λ i. record {
  precision = p i;
  year = ye i;
  month = m i;
  day = d i;
  hour = h i;
  minute = mi i;
  second = s i;
  offset = o i;
  digits = n i;
  fraction = f i;
}
