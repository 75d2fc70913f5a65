-- `escapes::put_text_escaped` meets its contract. Assumes nothing.
use mathlib.Core.Path.{sym}
use native.Mathlib.Omega.{arith}
use Rattle.text_rules.proofs.EscapesLaws.{text_body_most}
use Rattle.text_rules.proofs.escapes.put_text_escaped.Goals as goal

pub store_text-requires : goal.store_text-requires
store_text-requires c =
    let s = c.args.s.now in
    omega (arith, text_body_most s, c.if-s-room.true, c.if-pos-buf.true)

pub store_text-requires-then-not-any_hex : goal.store_text-requires-then-not-any_hex
store_text-requires-then-not-any_hex c = omega (arith, c.any_hex.ensures c.if-not-any_hex.true, c.if-s-room-2.true, c.if-pos-buf.true)
