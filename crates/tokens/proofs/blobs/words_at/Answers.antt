-- `blobs::words_at` meets its contract. The invariant: groups stand up to i, and their bytes are written. Assumes nothing.
use native.Mathlib.Omega.{arith}
use mathlib.Core.Path.{sym, ◌∙◌}
use Rattle.output.proofs.Laws.{wrote-length, wrote-bound}
use Rattle.tokens.proofs.BlobGroups.{decoded_none, decoded_more, groups-word}
use borrow.Author.Rules.{rules}
use Rattle.tokens.proofs.blobs.words_at.Goals as goal

pub loop-i-init : goal.loop-i-init
loop-i-init c = decoded_none _ _ _ _ _ c.requires c.bounded-p.ensures (search rules)

pub overflow_add-i : goal.overflow_add-i
overflow_add-i c = omega (arith, c.loop-i.invariant.groups.inside)

pub word_at-x-requires : goal.word_at-x-requires
word_at-x-requires c = omega arith

pub shape_of-buf-then-not-is_base64 : goal.shape_of-buf-then-not-is_base64
shape_of-buf-then-not-is_base64 c = wrote-length c.loop-i.invariant.wrote

pub returns-then-not-is_base64 : goal.returns-then-not-is_base64
returns-then-not-is_base64 c = c.loop-i.invariant

pub overflow_add-i-in-loop-i : goal.overflow_add-i-in-loop-i
overflow_add-i-in-loop-i c = omega arith

pub loop-i-smaller : goal.loop-i-smaller
loop-i-smaller c = omega arith

pub loop-i-preserved : goal.loop-i-preserved
loop-i-preserved c =
    let l = c.loop-i in
    decoded_more l.invariant (groups-word _ l.i _ _ _ (omega arith) c.word_at-x.ensures (sym c.is_base64.ensures ∙ c.if-not-is_base64.false) c.values.ensures c.gather.ensures) c.put_six-p.ensures

pub shape_of-buf : goal.shape_of-buf
shape_of-buf c = wrote-length c.loop-i.invariant.wrote

pub returns : goal.returns
returns c = c.loop-i.invariant
