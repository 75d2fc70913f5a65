-- Whole numbers in base ten, written and read. Assumes nothing: these are definitions.
use Rattle.std.specs.Prelude.{ℕ, zero, suc, ◌+◌, ◌-◌, ◌*◌, ◌/◌, ◌%◌, Bool, true, false, ◌&&◌, not, List, [], ◌∷◌, ◌++◌, length, replicate, leb, ltb, eqb}
use Rattle.output.specs.Logic.{if, byte}

-- the digit of a number below ten
abbrev pub digit : ℕ → ℕ
digit d = byte "0" + d

-- the w lowest digits of n, with leading zeros
unfoldable pub pad : ℕ → ℕ → List ℕ
pad zero n = []
pad (suc w) n = pad w (n / 10) ++ (digit (n % 10) ∷ [])

-- the number of digits of n, at most k + 1
unfoldable pub count : ℕ → ℕ → ℕ
count zero n = 1
count (suc k) n = if (ltb n 10) 1 (suc (count k (n / 10)))

-- plain decimal, of a number of 64 bits: 20 digits are enough
unfoldable pub digits : ℕ → List ℕ
digits n = pad (count 19 n) n

-- plain decimal behind as many zeros as the width asks for, as the Rust's `write_zero_padded` has it
unfoldable pub zero_padded : ℕ → ℕ → List ℕ
zero_padded w n = replicate (w - length (digits n)) (byte "0") ++ digits n

unfoldable pub is_digit : ℕ → Bool
is_digit c = leb (byte "0") c && leb c (byte "9")

-- the digits that a text starts with, and the text behind them
unfoldable pub run : List ℕ → List ℕ
run [] = []
run (c ∷ t) = if (is_digit c) (c ∷ run t) []

unfoldable pub behind_digits : List ℕ → List ℕ
behind_digits [] = []
behind_digits (c ∷ t) = if (is_digit c) (behind_digits t) (c ∷ t)

-- the number that digits are, behind those whose number is a
unfoldable pub number : ℕ → List ℕ → ℕ
number a [] = a
number a (c ∷ t) = number (a * 10 + (c - byte "0")) t

-- 0, or digits without leading zero
unfoldable pub whole : List ℕ → Bool
whole [] = false
whole (c ∷ []) = true
whole (c ∷ d ∷ t) = not (eqb c (byte "0"))
