-- The digits of several numbers in one word. Only inner contracts name these. Assumes nothing: these are definitions.
use Rattle.std.specs.Prelude.{ℕ, ◌+◌, ◌*◌, ◌/◌, ◌%◌, ◌<◌, ◌≡◌}

-- four numbers in lanes of sixteen bits
abbrev pub packed : ℕ → ℕ → ℕ → ℕ → ℕ
packed a b c d = a + 65536 * b + 4294967296 * c + 281474976710656 * d

-- the eight digits of four numbers below 100, as numbers: a byte each, the first lowest
unfoldable pub digit_word : ℕ → ℕ → ℕ → ℕ → ℕ
digit_word a b c d =
    a / 10 + 256 * (a % 10) + 65536 * (b / 10) + 16777216 * (b % 10) + 4294967296 * (c / 10) + 1099511627776 * (c % 10) + 281474976710656 * (d / 10) + 72057594037927936 * (d % 10)

-- the eight digits of x, below 100,000,000
abbrev pub word_of : ℕ → ℕ
word_of x = digit_word (x / 1000000) (x / 10000 % 100) (x / 100 % 100) (x % 100)

-- h is four numbers below 100 in lanes of sixteen bits
pub record PairLanes (h : ℕ) : Type 0 where
  pub a : ℕ
  pub b : ℕ
  pub c : ℕ
  pub d : ℕ
  pub small : (a < 100) × (b < 100) × (c < 100) × (d < 100)
  pub whole : h ≡ packed a b c d

-- r is the eight digits of the four numbers in h; below 10 · 2^56, as its highest byte is below ten
pub record Split (h r : ℕ) : Type 0 where
  pub word-is : (a b c d : ℕ) → a < 100 → b < 100 → c < 100 → d < 100 → h ≡ packed a b c d → r ≡ digit_word a b c d
  pub small : r < 720575940379279360
