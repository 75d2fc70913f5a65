-- Numbers in bytes, the lowest first, and parts of a list. Assumes nothing: these are definitions.
use Rattle.std.specs.Prelude.{ℕ, zero, suc, ◌+◌, ◌-◌, ◌*◌, ◌^◌, ℤ, pos, negsuc, List, ltb, get_or, take, drop}
use Rattle.output.specs.Logic.{if}

-- the number of the first w bytes, the lowest first: little-endian
unfoldable pub le_number : ℕ → List ℕ → ℕ
le_number zero l = 0
le_number (suc w) l = get_or l 0 0 + 256 * le_number w (drop 1 l)

-- the signed number of w bits, the highest of which is 2^(w - 1), and back: two's complement
unfoldable pub signed : ℕ → ℕ → ℤ
signed w b = if (ltb b (2 ^ (w - 1))) (pos b) (negsuc (2 ^ w - suc b))

unfoldable pub bits : ℕ → ℤ → ℕ
bits w (pos n) = n
bits w (negsuc n) = 2 ^ w - suc n

-- the bytes of s from a place to a place
abbrev pub part : List ℕ → ℕ → ℕ → List ℕ
part s from to = take (to - from) (drop from s)

-- the first problem of two
abbrev pub first : ℕ → ℕ → ℕ
first zero r = r
first (suc p) r = suc p
