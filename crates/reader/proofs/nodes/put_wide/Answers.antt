-- `nodes::put_wide` meets its contract. Assumes nothing.
use mathlib.Core.Path.{sym}
use mathlib.Core.List.{◌∷◌}
use native.Mathlib.Omega.{arith}
use Rattle.output.specs.Wrote.{le_bytes}
use Rattle.output.proofs.Laws.{sets-out, wrote_then, length-le}
use borrow.Author.Rules.{rules}
use Rattle.reader.proofs.nodes.put_wide.Goals as goal

pub returns-then-buf-pos : goal.returns-then-buf-pos
returns-then-buf-pos c =
    let x = c.args in
    let n = length-le 8 x.n in
    let e = c.ahead.ensures in
    record { bytes = sym (sets-out x.buf.now x.pos (x.kind ∷ le_bytes 8 x.n) c.if-buf-pos.true); count = omega arith; room = search rules }

pub returns-then-buf-pos-ge9 : goal.returns-then-buf-pos-ge9
returns-then-buf-pos-ge9 c =
    let x = c.args in
    let n = length-le 8 x.n in
    record { bytes = c.wide_at.ensures; count = omega arith; room = search rules }

pub returns : goal.returns
returns c = wrote_then c.put-p.ensures c.put_le.ensures
