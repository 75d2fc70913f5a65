-- `escapes::raw_bytes` meets its contract. The invariant: the whole needs no escape if what is left needs none. Assumes nothing.
use Prim.Native.Nat.{◌<◌}
use mathlib.Core.Path.{◌≡◌, sym}
use mathlib.Core.List.{[]}
use native.Mathlib.Omega.{arith}
use lib.ListN.{length, drop, drop_of_length-le}
use Rattle.text_rules.specs.Escapes.{text_body}
use Rattle.text_rules.proofs.DigitLaws.{never}
use Rattle.text_rules.proofs.EscapesLaws.{body_raw}
use Rattle.text_rules.proofs.escapes.raw_bytes.Goals as goal

pub loop-b-init : goal.loop-b-init
loop-b-init c = (omega arith, λ h. h)

pub returns-then-is_escaped : goal.returns-then-is_escaped
returns-then-is_escaped c = λ e. never (sym e)

pub loop-b-preserved : goal.loop-b-preserved
loop-b-preserved c =
    let l = c.loop-b in
    let s = c.args.s.now in
    let lt : l.b-index < length s = c.loop-b-test.true in
    (omega arith, λ h. l.invariant.1 (body_raw s l.b-index lt (c.is_escaped.ensures c.if-is_escaped.false) h))

pub returns : goal.returns
unfolding text_body
returns c =
    let l = c.loop-b in
    let s = c.args.s.now in
    let e : drop l.b-index s ≡ [] = drop_of_length-le s {i = l.b-index} (omega arith) in
    λ z. l.invariant.1 (rw e)
