-- `digit_words::pair_digits` meets its contract. Assumes nothing.
use mathlib.Core.Path.{◌≡◌, refl}
use Prim.Native.Nat.{ℕ, ◌+◌, ◌-◌, ◌*◌, ◌/◌, ◌%◌, ◌≤◌, ◌<◌}
use native.Mathlib.Omega.{arith}
use Rattle.lanes.specs.DigitLanes.{packed, digit_word}
use Rattle.lanes.proofs.DigitArith.{tens_of, lanes_word, word_small}
use Rattle.lanes.proofs.digit_words.pair_digits.Goals as goal

abbrev tens : ℕ → ℕ
tens u = u % 64 + u / 65536 % 64 * 65536 + u / 4294967296 % 64 * 4294967296 + u / 281474976710656 * 281474976710656

tens-is : (h a b c d : ℕ) → a < 100 → b < 100 → c < 100 → d < 100 → h ≡ packed a b c d → tens (h * 103 / 1024) ≡ packed (a / 10) (b / 10) (c / 10) (d / 10)
tens-is h a b c d ha hb hc hd e = tens_of a b c d h (h * 103 / 1024) ha hb hc hd e refl

abbrev joined : ℕ → ℕ
joined h = tens (h * 103 / 1024) + (h - 10 * tens (h * 103 / 1024)) * 256

whole : (h a b c d : ℕ) → a < 100 → b < 100 → c < 100 → d < 100 → h ≡ packed a b c d → joined h ≡ digit_word a b c d
whole h a b c d ha hb hc hd e = lanes_word a b c d h (tens (h * 103 / 1024)) e (tens-is h a b c d ha hb hc hd e)

under : (h t m : ℕ) → h ≡ 10 * t + m → 10 * t ≤ h
under h t m e = omega arith

pub returns : goal.returns
returns c =
    let h = c.args.h in
    let p = c.requires in
    record {
      word-is = whole h;
      small =
          rw (whole h p.a p.b p.c p.d p.small.0 p.small.1 p.small.2 p.small.3 p.whole)
          (word_small p.a p.b p.c p.d p.small.0 p.small.1 p.small.2 p.small.3);
    }
