-- The leading ones of a byte, counted as the leading zeros of its inverse, and what they announce: one test over the 256 bytes.
-- Assumes nothing.
use mathlib.Core.Path.{◌≡◌, refl}
use Prim.Native.Nat.{ℕ, ◌-◌, ◌<◌}
use lib.Dec.{leb, eqb}
use lib.Count.{count_leading_zeros}
use Rattle.output.specs.Logic.{if}
use Rattle.characters.specs.Utf8.{lead_of}
use Rattle.lanes.proofs.Table.{same}

abbrev pub of_ones : ℕ → ℕ
of_ones n = if (eqb n 0) 1 (if (eqb n 1) 0 (if (leb n 4) n 0))

pub ones_lead : (b : ℕ) → b < 256 → of_ones (count_leading_zeros 8 (255 - b)) ≡ lead_of b
unfolding lead_of count_leading_zeros
ones_lead = same (λ b. of_ones (count_leading_zeros 8 (255 - b))) lead_of 256 refl
