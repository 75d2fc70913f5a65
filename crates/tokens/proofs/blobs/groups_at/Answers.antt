-- `blobs::groups_at` meets its contract. The invariant is that of `words_at`. Assumes nothing.
use mathlib.Core.Path.{sym}
use native.Mathlib.Omega.{arith}
use Rattle.output.proofs.Laws.{wrote-length, wrote-bound}
use Rattle.tokens.proofs.BlobGroups.{decoded_none, decoded_more, groups_four, no_group, end_group, whole-three}
use borrow.Author.Rules.{rules}
use Rattle.tokens.proofs.blobs.groups_at.Goals as goal

pub loop-i-init : goal.loop-i-init
loop-i-init c = decoded_none _ _ _ _ _ c.requires c.bounded-p.ensures (search rules)

pub overflow_add-i : goal.overflow_add-i
overflow_add-i c = omega (arith, c.loop-i.invariant.groups.inside)

pub bounds-text-i : goal.bounds-text-i
bounds-text-i c = omega arith

pub overflow_add-i-in-loop-i : goal.overflow_add-i-in-loop-i
overflow_add-i-in-loop-i c = omega arith

pub bounds-text-i-in-loop-i : goal.bounds-text-i-in-loop-i
bounds-text-i-in-loop-i c = omega arith

pub overflow_add-i-in-loop-i-2 : goal.overflow_add-i-in-loop-i-2
overflow_add-i-in-loop-i-2 c = omega arith

pub bounds-text-i-in-loop-i-2 : goal.bounds-text-i-in-loop-i-2
bounds-text-i-in-loop-i-2 c = omega arith

pub overflow_add-i-in-loop-i-3 : goal.overflow_add-i-in-loop-i-3
overflow_add-i-in-loop-i-3 c = omega arith

pub bounds-text-i-in-loop-i-3 : goal.bounds-text-i-in-loop-i-3
bounds-text-i-in-loop-i-3 c = omega arith

pub shape_of-buf-in_default : goal.shape_of-buf-in_default
shape_of-buf-in_default c = wrote-length c.loop-i.invariant.wrote

pub returns-in_default : goal.returns-in_default
returns-in_default c =
    record { read = c.loop-i.invariant; all = no_group _ c.loop-i.i (omega arith) (sym (rw c.in_default.is at c.bits_of.ensures.bits)) }

pub put_bytes24-p-requires : goal.put_bytes24-p-requires
put_bytes24-p-requires c = (c.in-Some.ensures.below, omega arith)

pub overflow_add-i-in-loop-i-4 : goal.overflow_add-i-in-loop-i-4
overflow_add-i-in-loop-i-4 c = omega arith

pub loop-i-smaller : goal.loop-i-smaller
loop-i-smaller c = omega arith

pub loop-i-preserved : goal.loop-i-preserved
loop-i-preserved c =
    let l = c.loop-i in
    decoded_more l.invariant (groups_four _ l.i _ (omega arith) (sym (rw c.in-Some.is at c.bits_of.ensures.bits))) (whole-three _ c.put_bytes24-p.ensures)

pub shape_of-buf : goal.shape_of-buf
shape_of-buf c = wrote-length c.loop-i.invariant.wrote

pub returns : goal.returns
returns c = record { read = c.loop-i.invariant; all = end_group _ c.loop-i.i (omega arith) }
