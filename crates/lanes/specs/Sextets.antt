-- Numbers of six bits among bytes, and the bytes of base64's characters side by side. Only inner contracts name these. Assumes nothing: these are
-- definitions.
use Rattle.std.specs.Prelude.{ℕ, ◌+◌, ◌-◌, ◌*◌, ◌/◌, ◌%◌, List, [], ◌∷◌}
use Rattle.std.specs.Int.Bits.{bit_and, bit_or}
use Rattle.lanes.specs.Lanes.{low, other_mark, digit_mark}

-- the four numbers of six bits in each three bytes; of fewer bytes at the end there are none
unfoldable pub sextets : List ℕ → List ℕ
sextets [] = []
sextets (a ∷ []) = []
sextets (a ∷ b ∷ []) = []
sextets (a ∷ b ∷ c ∷ s) = a / 4 ∷ (a % 4 * 16 + b / 16) ∷ (b % 16 * 4 + c / 64) ∷ c % 64 ∷ sextets s

-- the three bytes of each four numbers, of which the six low bits count
unfoldable pub octets : List ℕ → List ℕ
octets [] = []
octets (i ∷ []) = []
octets (i ∷ j ∷ []) = []
octets (i ∷ j ∷ k ∷ []) = []
octets (i ∷ j ∷ k ∷ l ∷ s) = (i % 64 * 4 + j / 16 % 4) ∷ (j % 16 * 16 + k / 4 % 16) ∷ (k % 4 * 64 + l % 64) ∷ octets s

-- 1 where the seven low bits of a byte are m at least, else 0
abbrev pub at_least : ℕ → ℕ → ℕ
at_least m b = bit_and (low b + (0x80 - m)) 0x80 / 128

-- the number whose character a byte is: `+` and `/` are 62 and 63, digits 52 on, capitals 0 on, small letters 26 on. Of other bytes it says nothing
abbrev pub value_lane : ℕ → ℕ
value_lane b = low b + at_least 43 b * 19 - (at_least 47 b * 3 + at_least 48 b * 12 + at_least 65 b * 69 + at_least 97 b * 6)

-- the mark of a byte whose seven low bits are a letter: a capital, or a small one
abbrev pub capital_mark : ℕ → ℕ
capital_mark b = bit_and (low b + 0x3F) (0xFF - (low b + 0x25))

abbrev pub small_mark : ℕ → ℕ
small_mark b = bit_and (low b + 0x1F) (0xFF - (low b + 0x05))

-- the mark of a byte that is no character of base64
abbrev pub no_base64 : ℕ → ℕ
no_base64 b = bit_or (0xFF - bit_or (bit_or (bit_or (bit_or (capital_mark b) (small_mark b)) (digit_mark b)) (0xFF - other_mark 0x2B b)) (0xFF - other_mark 0x2F b)) b
