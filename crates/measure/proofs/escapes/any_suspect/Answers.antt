-- `escapes::any_suspect` meets its contract. The invariant: where no flag is set yet, the whole needs no escape if what is left needs none.
-- Assumes nothing.
use mathlib.Core.Path.{◌≡◌}
use mathlib.Core.List.{[]}
use native.Mathlib.Omega.{arith}
use lib.ListN.{drop, drop_of_length-le}
use Rattle.text_rules.specs.Escapes.{text_body}
use Rattle.lanes.proofs.LaneLaws.{or_left, or_right}
use Rattle.text_rules.proofs.EscapesLaws.{body_raw}
use Rattle.measure.proofs.escapes.any_suspect.Goals as goal

pub loop-b-preserved : goal.loop-b-preserved
loop-b-preserved c =
    let l = c.loop-b in
    let s = c.args.s.now in
    let x = c.suspect-n in
    λ e h. l.invariant (omega (arith, or_left l.n x.result)) (body_raw s l.b-index (omega arith) (x.ensures (omega (arith, or_right l.n x.result))) h)

pub returns : goal.returns
unfolding text_body
returns c =
    let l = c.loop-b in
    let s = c.args.s.now in
    let e : drop l.b-index s ≡ [] = drop_of_length-le s {i = l.b-index} (omega arith) in
    λ z. l.invariant z (rw e)
