-- Words as bytes side by side: what a word operation does to each byte. Only inner contracts name these. Assumes nothing: these are definitions.
use Rattle.std.specs.Prelude.{ℕ, zero, suc, ◌+◌, ◌-◌, ◌*◌, ◌/◌, ◌%◌, ◌<◌, ◌≡◌, Bool, true, ◌&&◌, List, [], ◌∷◌, eqb}
use Rattle.std.specs.Int.Bits.{bit_and, bit_or, bit_xor}

-- f of each of the w lowest bytes of x, in that byte's place
unfoldable pub lanes : ℕ → (ℕ → ℕ) → ℕ → ℕ
lanes zero f x = 0
lanes (suc w) f x = lanes w f (x / 256) * 256 + f (x % 256)

-- the byte c in each of the w lowest places
unfoldable pub rep : ℕ → ℕ → ℕ
rep zero c = 0
rep (suc w) c = rep w c * 256 + c

-- v is f of each of the eight bytes of x, and f gives bytes
pub record Lane (f : ℕ → ℕ) (x v : ℕ) : Type 0 where
  pub is : v ≡ lanes 8 f x
  pub small : (b : ℕ) → b < 256 → f b < 256

-- every byte passes the test
unfoldable pub every : (ℕ → Bool) → List ℕ → Bool
every p [] = true
every p (b ∷ s) = p b && every p s

-- ---- marks of a byte: only the high bit counts. It is set where what stands above each is so

-- the mark f of a byte is not set
unfoldable pub unmarked_by : (ℕ → ℕ) → ℕ → Bool
unmarked_by f b = eqb (bit_and (f b) 0x80) 0

-- the seven low bits of a byte, no mark
abbrev pub low : ℕ → ℕ
low b = bit_and b 0x7F

-- the seven low bits are not c
abbrev pub other_mark : ℕ → ℕ → ℕ
other_mark c b = bit_xor (low b) c + 0x7F

-- the seven low bits are an ASCII letter or `_`: with hex 20 set a letter is hex 61 to 7A
abbrev pub letter_mark : ℕ → ℕ
letter_mark b = bit_or (bit_and (bit_or (low b) 0x20 + 0x1F) (0xFF - (bit_or (low b) 0x20 + 0x05))) (0xFF - other_mark 0x5F b)

-- they are a digit
abbrev pub digit_mark : ℕ → ℕ
digit_mark b = bit_and (low b + 0x50) (0xFF - (low b + 0x46))

-- they are hex 20 at least, and no quote mark or backslash
abbrev pub raw_mark : ℕ → ℕ
raw_mark b = bit_and (bit_and (bit_and (low b + 0x60) (other_mark 0x22 b)) (other_mark 0x27 b)) (other_mark 0x5C b)

-- ---- the marks of what the tests refuse

-- no letter or `_`, or hex 80 at least
abbrev pub no_letter : ℕ → ℕ
no_letter b = bit_or (0xFF - letter_mark b) b

-- no letter, `_`, digit or `$`, or hex 80 at least
abbrev pub no_part : ℕ → ℕ
no_part b = bit_or (0xFF - bit_or (bit_or (letter_mark b) (digit_mark b)) (0xFF - other_mark 0x24 b)) b

-- below hex 20, a quote mark or a backslash
abbrev pub no_raw : ℕ → ℕ
no_raw b = 0xFF - bit_or (raw_mark b) b
