-- `nodes::offset_word` meets its contract. Assumes nothing.
use mathlib.Core.Path.{sym}
use native.Mathlib.Omega.{arith}
use Rattle.reader.proofs.NodeWords.{offset_bytes, offset_bits}
use Rattle.reader.proofs.nodes.offset_word.Goals as goal

pub overflow_add-result : goal.overflow_add-result
overflow_add-result c =
    let s = offset_bits _ c.args.x.offset (record { sfits = c.struct_told-1.given.1.1.1.1.1.1.1.0.1 }) c.bits_of_offset.ensures in
    record { fits = omega (arith, s.1) }

pub overflow_add-result-2 : goal.overflow_add-result-2
overflow_add-result-2 c =
    let s = offset_bits _ c.args.x.offset (record { sfits = c.struct_told-1.given.1.1.1.1.1.1.1.0.1 }) c.bits_of_offset.ensures in
    record { fits = omega (arith, s.1) }

pub returns : goal.returns
returns c =
    let s = offset_bits _ c.args.x.offset (record { sfits = c.struct_told-1.given.1.1.1.1.1.1.1.0.1 }) c.bits_of_offset.ensures in
    rw (sym s.0) (offset_bytes _ _ _ s.1 (omega arith))
