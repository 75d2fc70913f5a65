-- `clobs::any_clob_suspect` meets its contract. The invariant: where none was found, the whole needs no escape if what is left needs none.
-- Assumes nothing.
use mathlib.Core.Path.{◌≡◌}
use mathlib.Core.List.{[]}
use native.Mathlib.Omega.{arith}
use lib.ListN.{drop, drop_of_length-le}
use Rattle.std.proofs.lemmas.Bool.{or_parts}
use Rattle.text_rules.specs.Escapes.{clob_body}
use Rattle.text_rules.proofs.ClobLaws.{clob-raw}
use Rattle.text_rules.proofs.clobs.any_clob_suspect.Goals as goal

pub loop-b-preserved : goal.loop-b-preserved
loop-b-preserved c =
    let l = c.loop-b in
    let s = c.args.s.now in
    (omega arith, λ e h. let o = or_parts _ _ e in l.invariant.1 o.0 (clob-raw s l.b-index c.loop-b-test.true (c.clob_suspect-any.ensures o.1) h))

pub returns : goal.returns
unfolding clob_body
returns c =
    let l = c.loop-b in
    let s = c.args.s.now in
    let e : drop l.b-index s ≡ [] = drop_of_length-le s {i = l.b-index} (omega arith) in
    λ z. l.invariant.1 z (rw e)
