-- `field_index::fields::read_field` meets its contract. Assumes nothing.
use Rattle.std.proofs.Common.{arith}
use Rattle.field_index.proofs.FieldLaws.{its_turn, its_size, next-by, name_there}
use Rattle.field_index.proofs.fields.read_field.Goals as goal

pub value_size-requires : goal.value_size-requires
value_size-requires c =
    let a = c.args in
    let b = c.requires.0 in
    record { at_le_end = b.ordered; end_in_bounds = b.inside; nonzero = (name_there a.tape.now a.at a.end b.bytes c.requires.1 b.inside b.fine).0 }

pub overflow_add-value : goal.overflow_add-value
overflow_add-value c =
    let a = c.args in
    let b = c.requires.0 in
    omega (arith, (name_there a.tape.now a.at a.end b.bytes c.requires.1 b.inside b.fine).1)

pub value_size-requires-2 : goal.value_size-requires-2
value_size-requires-2 c =
    let a = c.args in
    let t = a.tape.now in
    let b = c.requires.0 in
    let h = c.requires.1 in
    rw c.value_place-inner.ensures (record { at_le_end = (its_turn t a.at a.end b h).within; end_in_bounds = b.inside; nonzero = its_size t a.at a.end b h })

pub overflow_add-next : goal.overflow_add-next
overflow_add-next c =
    let a = c.args in
    let t = a.tape.now in
    let b = c.requires.0 in
    let h = c.requires.1 in
    omega (arith, (its_turn t a.at a.end b h).behind, next-by t a.at a.end b h _ _ c.value_place-inner.ensures c.value_size-2.ensures)

pub returns : goal.returns
returns c =
    let a = c.args in
    let j = next-by a.tape.now a.at a.end c.requires.0 c.requires.1 _ _ c.value_place-inner.ensures c.value_size-2.ensures in
    let n = c.value_size.ensures in
    rw (n, j)
