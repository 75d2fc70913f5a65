-- `digit_words::word8` meets its contract. Assumes nothing.
use mathlib.Core.Path.{◌≡◌, refl}
use Prim.Native.Nat.{ℕ, ◌+◌, ◌*◌, ◌/◌, ◌%◌, ◌<◌}
use native.Mathlib.Omega.{arith}
use Rattle.lanes.proofs.DigitArith.{tops_of, halves_packed}
use Rattle.lanes.proofs.digit_words.word8.Goals as goal

abbrev m : ℕ → ℕ
m x = x / 10000 + 4294967296 * (x % 10000)

abbrev top : ℕ → ℕ
top x = m x * 10486 / 1048576 / 4294967296 * 4294967296 + m x * 10486 / 1048576 % 4096

top-is : (x : ℕ) → x < 100000000 → top x ≡ x / 10000 / 100 + 4294967296 * (x % 10000 / 100)
top-is x h = tops_of (x / 10000) (x % 10000) (m x) (m x * 10486 / 1048576) (omega arith) (omega arith) refl refl

pub pair_digits-requires : goal.pair_digits-requires
pair_digits-requires c =
    let x = c.args.x in
    record {
      a = x / 1000000;
      b = x / 10000 % 100;
      c = x / 100 % 100;
      d = x % 100;
      small = (omega arith, omega arith, omega arith, omega arith);
      whole = halves_packed x (m x) (top x) refl (top-is x c.requires);
    }
