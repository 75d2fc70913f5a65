-- `order::compare_names` meets its contract. Assumes nothing.
use Rattle.std.proofs.Common.{sym, ◌∙◌}
use Rattle.tape.specs.Bytes.{part}
use Rattle.order.proofs.HeadLaws.{name-sym, named_order, nameless}
use Rattle.order.proofs.compare_names.Goals as goal

pub compare_scalar-requires : goal.compare_scalar-requires
compare_scalar-requires c =
    record { leaf = (name-sym c.args.a.now c.args.i c.args.ea (rw c.in-Struct.is at c.requires.named)).1.leaf; leaf_2 = (name-sym c.args.b.now c.args.j c.args.eb (rw c.in-Struct.is at c.requires.named_2)).1.leaf }

pub returns-in-Struct : goal.returns-in-Struct
returns-in-Struct c =
    rw c.in-Struct.is (c.compare_scalar.ensures ∙ sym (named_order c.args.a.now c.args.b.now c.args.i c.args.ea c.args.j c.args.eb (rw c.in-Struct.is at c.requires.named) (rw c.in-Struct.is at c.requires.named_2)))

pub returns-in_default : goal.returns-in_default
returns-in_default c =
    let n = c.in_default.not-Struct in
    rw (nameless c.args.frame (part c.args.a.now c.args.i c.args.ea) n, nameless c.args.frame (part c.args.b.now c.args.j c.args.eb) n)
