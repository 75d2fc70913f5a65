-- `characters::or_first` meets its contract. Assumes nothing.
use Prim.Native.Nat.{ℕ, ◌<◌}
use mathlib.Core.Path.{◌≡◌, refl, ap, ◌∙◌}
use native.Mathlib.Omega.{arith}
use lib.ListN.{length, get_or, take, drop, length-take}
use Rattle.std.proofs.lemmas.List.{get_or-take}
use Rattle.characters.specs.Utf8.{after, valid}
use Rattle.lanes.proofs.LaneLaws.{or_left, or_right}
use Rattle.characters.proofs.Utf8Chars.{ascii_step}
use Rattle.characters.proofs.or_first.Goals as goal

pub loop-b-init : goal.loop-b-init
unfolding valid
loop-b-init c = λ e. refl

pub loop-b-preserved : goal.loop-b-preserved
loop-b-preserved c =
    let l = c.loop-b in
    let s = c.args.s.now in
    let i = l.b-index in
    let n = length-take c.args.m s in
    let h : i < length s = omega arith in
    let b = get_or s i 0 in
    let e : get_or (take c.args.m s) i 0 ≡ b = get_or-take c.args.m s i 0 (omega arith) in
    rw e (λ z. l.invariant (omega (arith, or_left l.bits b)) ∙ ascii_step s i h (omega (arith, or_right l.bits b)))

pub returns : goal.returns
unfolding valid
returns c =
    let l = c.loop-b in
    let s = c.args.s.now in
    let n = length-take c.args.m s in
    let e : l.b-index ≡ c.args.m = omega arith in
    λ z. l.invariant z ∙ ap (λ (k : ℕ). after 0 (drop k s)) e
