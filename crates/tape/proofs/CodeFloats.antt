-- Floats by their bits, as the code tests them. Assumes nothing.
use Prim.Native.Nat.{ℕ, ◌%◌, ◌^◌, ◌<◌, ◌≤◌}
use mathlib.Core.Path.{◌≡◌, refl}
use mathlib.Core.Bool.{Bool, true, false, not}
use mathlib.Core.Option.{none, some}
use native.Mathlib.Decide.{dec_lt}
use native.Mathlib.Omega.{arith}
use lib.Dec.{T}
use lib.Ieee.{Float, nan, inf, fin, binary64, of_bits, to_bits, is_nan}
use Rattle.floats.specs.Value.{whole_of, up_to, magnitude, is_whole}
use Rattle.floats.proofs.ValueLaws.{nothing}
use Rattle.tape.specs.Tape.{float_fault}
use Rattle.tape.proofs.Numbers.{of_bits-not-nan, not-nan-low, to-bits_of}

-- a whole number is no NaN
whole_plain : (x : Float) (n : ℕ) → magnitude x ≡ some n → is_nan x ≡ false
unfolding magnitude whole_of up_to is_nan
whole_plain nan n e = absurd (nothing n e)
whole_plain (inf s) n e = refl
whole_plain (fin s m d) n e = refl

-- so its pattern is below theirs
pub whole-low : (b n : ℕ) → magnitude (of_bits binary64 b) ≡ some n → b % 0x8000_0000_0000_0000 ≤ 0x7FF0_0000_0000_0000
whole-low b n e = not-nan-low b (whole_plain (of_bits binary64 b) n e)

-- nothing is wrong with a whole number
pub whole-fault : (x : Float) (n : ℕ) → magnitude x ≡ some n → float_fault x ≡ 0
unfolding float_fault is_whole
whole-fault nan n e = refl
whole-fault (inf s) n e = refl
whole-fault (fin s m d) n e = rw e

-- nor with the infinities, by computation
pub inf-fault : (b : ℕ) → b < 2 ^ 64 → b % 0x8000_0000_0000_0000 ≡ 0x7FF0_0000_0000_0000 → float_fault (of_bits binary64 b) ≡ 0
unfolding float_fault of_bits
inf-fault b h e = go (dec_lt b 0x8000_0000_0000_0000)
  where
    go : Dec (b < 0x8000_0000_0000_0000) → float_fault (of_bits binary64 b) ≡ 0
    go (yes l) = let z : b ≡ 0x7FF0_0000_0000_0000 = omega arith in rw z
    go (no l) = let z : b ≡ 0xFFF0_0000_0000_0000 = omega arith in rw z

inf_bits : (s : Bool) → to_bits binary64 (inf s) % 0x8000_0000_0000_0000 ≡ 0x7FF0_0000_0000_0000
unfolding to_bits
inf_bits true = refl
inf_bits false = refl

-- a finite float that is no whole number up to the most is refused
pub other-fault : (b : ℕ) → b < 2 ^ 64 → b % 0x8000_0000_0000_0000 < 0x7FF0_0000_0000_0000 → magnitude (of_bits binary64 b) ≡ none → float_fault (of_bits binary64 b) ≡ 4
unfolding float_fault is_whole is_nan
other-fault b h k e = go (of_bits binary64 b) e (of_bits-not-nan b (omega arith)) (to-bits_of b h (omega arith))
  where
    go : (x : Float) → magnitude x ≡ none → T (not (is_nan x)) → to_bits binary64 x ≡ b → float_fault x ≡ 4
    go nan e t i = absurd t
    go (inf s) e t i = let z = inf_bits s in absurd (omega arith)
    go (fin s m d) e t i = rw e
