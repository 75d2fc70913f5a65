-- `escapes::any_hex` meets its contract. The invariant: where none was found, what was looked through takes two bytes for each at most. Assumes
-- nothing.
use Prim.Native.Nat.{◌+◌}
use mathlib.Core.Path.{◌≡◌, sym, ap, ◌∙◌}
use mathlib.Core.List.{[]}
use native.Mathlib.Omega.{arith}
use lib.ListN.{length, get_or, drop, length-append, drop_of_length-le}
use Rattle.std.proofs.lemmas.Bool.{or_parts}
use Rattle.text_rules.specs.Escapes.{text_escape, text_body}
use Rattle.text_rules.proofs.EscapesLaws.{body_step, escape_two}
use Rattle.text_rules.proofs.escapes.any_hex.Goals as goal

pub loop-b-preserved : goal.loop-b-preserved
loop-b-preserved c =
    let l = c.loop-b in
    let s = c.args.s.now in
    let b = ap length (body_step s l.b-index c.loop-b-test.true) in
    let k = length-append (text_escape (get_or s l.b-index 0)) (text_body (drop (l.b-index + 1) s)) in
    (omega arith, λ e. let o = or_parts l.any c.takes_hex-any.result e in omega (arith, l.invariant.1 o.0, escape_two _ (sym c.takes_hex-any.ensures ∙ o.1), b, k))

pub returns : goal.returns
unfolding text_body
returns c =
    let l = c.loop-b in
    let s = c.args.s.now in
    let e : drop l.b-index s ≡ [] = drop_of_length-le s {i = l.b-index} (omega arith) in
    λ z. omega (arith, rw e at (l.invariant.1 z), l.invariant.0)
