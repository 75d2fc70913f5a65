-- Ints and decimals, read from the start of a text: what was begun is read as far as it goes, or refused; and the text behind it. What may
-- stand behind a token is the sequence's to say.
-- Assumes nothing: these are definitions.
use Rattle.std.specs.Prelude.{ℕ, suc, ◌^◌, ℤ, pos, negsuc, neg_ℤ, ◌-ℤ◌, Bool, true, false, ◌&&◌, List, length, drop, eqb, leb, ltb}
use Rattle.std.proofs.Math.Option.{Option, none, some}
use Rattle.output.specs.Logic.{if, then, byte}
use Rattle.text_rules.specs.Digits.{run, behind_digits, number, whole}
use Rattle.text_rules.specs.Texts.{starts}

-- an int; a decimal, by sign, magnitude and exponent
pub data Numeral : Type 0 where
  int : ℤ → Numeral
  decimal : Bool → ℕ → ℤ → Numeral

abbrev pub ReadNumeral : Type 0
ReadNumeral = Option (Numeral × List ℕ)

-- the number of this magnitude, with a minus or not
abbrev pub with_sign : Bool → ℕ → ℤ
with_sign true n = neg_ℤ (pos n)
with_sign false n = pos n

-- the number, if it is from -low to high; `negsuc n` is -(n + 1)
unfoldable pub held : ℕ → ℕ → ℤ → Option ℤ
held low high (pos n) = if (leb n high) (some (pos n)) none
held low high (negsuc n) = if (leb (suc n) low) (some (negsuc n)) none

-- in i64
abbrev pub in_i64 : ℤ → Option ℤ
in_i64 z = held 9_223_372_036_854_775_808 9_223_372_036_854_775_807 z

-- in i32
abbrev pub in_i32 : ℤ → Option ℤ
in_i32 z = held 2_147_483_648 2_147_483_647 z

-- Int: 0, or optional minus and digits not starting with 0 (so no `-0`), in i64
unfoldable pub ranged_int : Bool → ℕ → List ℕ → ReadNumeral
ranged_int neg m r = if (neg && eqb m 0) none (then (in_i64 (with_sign neg m)) (λ z. some (Numeral.int z, r)))

-- Exponent: the written one e (else 0) less the n digits after the point, in i32
unfoldable pub shifted : ℕ → ℤ → Option ℤ
shifted n e = in_i32 (e -ℤ pos n)

-- Magnitude: all digits joined are m, in u64; n of them stood after the point
unfoldable pub ranged_decimal : Bool → ℕ → ℕ → ℤ → List ℕ → ReadNumeral
ranged_decimal neg m n e r = if (ltb m (2 ^ 64)) (then (shifted n e) (λ x. some (Numeral.decimal neg m x, r))) none

-- the written exponent's digits es: 1 to 10
unfoldable pub power_of : Bool → ℕ → ℕ → Bool → List ℕ → List ℕ → ReadNumeral
power_of neg m n minus es r = if (leb 1 (length es) && leb (length es) 10) (ranged_decimal neg m n (with_sign minus (number 0 es)) r) none

-- behind `d`: an optional sign, and digits
unfoldable pub behind_d : Bool → ℕ → ℕ → List ℕ → ReadNumeral
behind_d neg m n t =
    if (starts (byte "-") t) (power_of neg m n true (run (drop 1 t)) (behind_digits (drop 1 t)))
    (if (starts (byte "+") t) (power_of neg m n false (run (drop 1 t)) (behind_digits (drop 1 t)))
    (power_of neg m n false (run t) (behind_digits t)))

-- behind a point and its n digits: `d`, or the end
unfoldable pub behind_point : Bool → ℕ → ℕ → List ℕ → ReadNumeral
behind_point neg m n t = if (starts (byte "d") t) (behind_d neg m n (drop 1 t)) (ranged_decimal neg m n (pos 0) t)

-- behind the first digits, which are m: a point with zero or more digits, `d`, or the end of an int
unfoldable pub behind_whole : Bool → ℕ → List ℕ → ReadNumeral
behind_whole neg m t =
    if (starts (byte ".") t) (behind_point neg (number m (run (drop 1 t))) (length (run (drop 1 t))) (behind_digits (drop 1 t)))
    (if (starts (byte "d") t) (behind_d neg m 0 (drop 1 t))
    (ranged_int neg m t))

-- 0 or digits without leading zero, and what stands behind them
unfoldable pub unsigned : Bool → List ℕ → ReadNumeral
unsigned neg t = if (whole (run t)) (behind_whole neg (number 0 (run t)) (behind_digits t)) none

-- an optional minus
unfoldable pub numeral : List ℕ → ReadNumeral
numeral t = if (starts (byte "-") t) (unsigned true (drop 1 t)) (unsigned false t)
