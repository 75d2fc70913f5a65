-- `digits::put_blocks` meets its contract. Assumes nothing.
use mathlib.Core.Path.{◌≡◌}
use Prim.Native.Nat.{ℕ, ◌<◌, ◌%◌, ◌+◌, ◌/◌}
use native.Mathlib.Nat.{add_assoc}
use native.Mathlib.Omega.{arith}
use mathlib.Core.List.{List}
use lib.ListN.{set}
use lib.Seq.{sets}
use Rattle.text_rules.specs.Digits.{digit, pad}
use Rattle.text_rules.proofs.DigitLaws.{last_one}
use Rattle.text_rules.proofs.DigitCode.{count-is, led_short, led_more}
use Rattle.text_rules.proofs.DigitWords.{ahead_most, ahead_more}
use borrow.Author.Rules.{rules}
use Rattle.text_rules.proofs.digits.put_blocks.Goals as goal

one_digit : (l : List ℕ) (p n d : ℕ) → n < 10 → d ≡ digit n → set l p d ≡ sets l p (pad 1 n)
unfolding pad
one_digit l p n d h e = let m : n % 10 ≡ n = omega arith in rw (m, e)

pub returns-then-n-lt10 : goal.returns-then-n-lt10
returns-then-n-lt10 c =
    let n = c.args.n in
    led_short 1 (one_digit c.args.buf.now c.args.pos n _ c.if-n-lt10.true c.digit_of.ensures) (last_one 19 n (omega arith))

pub returns-then-n-lt100 : goal.returns-then-n-lt100
returns-then-n-lt100 c =
    let n = c.args.n in
    led_short 2 c.two.ensures (count-is 1 n (omega arith) (omega arith) (omega arith))

pub eight-requires : goal.eight-requires
eight-requires c = let m = ahead_most 7 c.lead_store-p.ensures (omega arith) in search rules

pub overflow_add-result-then-h-lt100000000 : goal.overflow_add-result-then-h-lt100000000
overflow_add-result-then-h-lt100000000 c = let m = ahead_most 7 c.lead_store-p.ensures (omega arith) in search rules

pub returns-then-h-lt100000000 : goal.returns-then-h-lt100000000
returns-then-h-lt100000000 c = ahead_more c.args.n (omega arith) (omega arith) c.lead_store-p.ensures c.eight.ensures

pub eight-requires-2 : goal.eight-requires-2
eight-requires-2 c = let m = ahead_most 3 c.lead_store-p-2.ensures (omega arith) in search rules

pub overflow_add-p : goal.overflow_add-p
overflow_add-p c = let m = ahead_most 3 c.lead_store-p-2.ensures (omega arith) in search rules

pub eight-requires-3 : goal.eight-requires-3
eight-requires-3 c = let m = ahead_most 3 c.lead_store-p-2.ensures (omega arith) in search rules

pub overflow_add-result-2 : goal.overflow_add-result-2
overflow_add-result-2 c = let m = ahead_most 3 c.lead_store-p-2.ensures (omega arith) in search rules

pub returns : goal.returns
returns c =
    let n = c.args.n in
    let high = ahead_more (n / 100000000) (omega arith) (omega arith) c.lead_store-p-2.ensures c.eight-2.ensures in
    let e : _ ≡ c.lead_store-p-2.result + 16 = add_assoc c.lead_store-p-2.result 8 8 in
    rw e at (led_more 8 n (omega arith) (omega arith) (omega arith) high c.eight-3.ensures)
