-- `order::name_place` meets its contract. Assumes nothing.
use Rattle.std.proofs.Common.{ℕ, ◌+◌, ap, ◌∙◌, arith}
use Rattle.order.proofs.HeadLaws.{name-sym, nameless}
use Rattle.order.proofs.name_place.Goals as goal

pub scalar_end-requires : goal.scalar_end-requires
scalar_end-requires c = (name-sym c.args.tape.now c.args.at c.args.end (rw c.in-Struct.is at c.requires)).1.leaf

pub returns-in-Struct : goal.returns-in-Struct
returns-in-Struct c =
    rw c.in-Struct.is (c.scalar_end.ensures ∙ ap (λ (i : ℕ). c.args.at + i) (name-sym c.args.tape.now c.args.at c.args.end (rw c.in-Struct.is at c.requires)).1.size)

pub returns-in_default : goal.returns-in_default
returns-in_default c = rw (nameless c.args.frame _ c.in_default.not-Struct) (omega arith)
