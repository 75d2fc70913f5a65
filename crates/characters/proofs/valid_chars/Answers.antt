-- `characters::valid_chars` meets its contract. The invariant: what is left from i decides what is left from the first place. Assumes nothing.
use mathlib.Core.Path.{refl, sym, ap, ◌∙◌}
use mathlib.Core.List.{List}
use Prim.Native.Nat.{ℕ, ◌+◌, ◌≤◌, ◌<◌}
use native.Mathlib.Omega.{arith}
use lib.ListN.{length, drop, drop_of_length-le}
use Rattle.characters.specs.Utf8.{after, valid}
use Rattle.characters.proofs.Utf8Chars.{char_in, step, stop}
use Rattle.characters.proofs.valid_chars.Goals as goal

pub loop-i-init : goal.loop-i-init
unfolding valid
loop-i-init c = (c.requires, refl)

pub returns-then-n-eq0 : goal.returns-then-n-eq0
returns-then-n-eq0 c =
    let s = c.args.s.now in
    sym (c.loop-i.invariant.1 ∙ stop s c.loop-i.i c.loop-i-test.true (sym c.char_len-n.ensures ∙ c.if-n-eq0.true))

-- the next place is within the slice
next : (c : goal.Else-n-eq0) → (c.loop-i.i + c.char_len-n.result ≤ length c.args.s.now) × (0 < c.char_len-n.result)
next c =
    let s = c.args.s.now in
    omega (arith, c.if-n-eq0.false, c.char_len-n.ensures, char_in s c.loop-i.i c.loop-i-test.true)

pub overflow_add-i : goal.overflow_add-i
overflow_add-i c = omega (arith, next c)

pub loop-i-preserved : goal.loop-i-preserved
loop-i-preserved c =
    let s = c.args.s.now in
    let e = c.char_len-n.ensures in
    ((next c).0, c.loop-i.invariant.1 ∙ step s c.loop-i.i c.loop-i-test.true (rw e at (next c).1) ∙ ap (λ (n : ℕ). after 0 (drop (c.loop-i.i + n) s)) (sym e))

pub returns : goal.returns
unfolding after
returns c =
    let s = c.args.s.now in
    sym (c.loop-i.invariant.1 ∙ ap (λ (x : List ℕ). after 0 x) (drop_of_length-le s c.loop-i-test.false))
