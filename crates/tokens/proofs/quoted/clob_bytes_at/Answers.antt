-- `quoted::clob_bytes_at` meets its contract. The invariant: what is said of the rest from i on holds of the whole. Assumes nothing.
use mathlib.Core.Path.{refl, ◌∙◌}
use native.Mathlib.Omega.{arith}
use Rattle.output.proofs.Laws.{wrote-length, wrote-bound}
use Rattle.text_rules.specs.Texts.{starts}
use Rattle.tokens.specs.Quoted.{raw_byte, clob_byte}
use Rattle.tokens.proofs.QuotedMany.{at_mark, at_wrong, at-end, at_piece, at-run, plain-byte, clob-bytes-at}
use borrow.Author.Rules.{rules}
use Rattle.tokens.proofs.quoted.clob_bytes_at.Goals as goal

pub loop-at-init : goal.loop-at-init
loop-at-init c = (omega arith, omega arith, refl, λ r b' h. h)

pub slice_bounds-put_bytes-count : goal.slice_bounds-put_bytes-count
slice_bounds-put_bytes-count c = omega (arith, c.plain_bytes_end-e.ensures.ahead)

pub slice_bounds-put_bytes-start : goal.slice_bounds-put_bytes-start
slice_bounds-put_bytes-start c = omega (arith, c.plain_bytes_end-e.ensures.ahead)

pub slice_bounds-put_bytes-end : goal.slice_bounds-put_bytes-end
slice_bounds-put_bytes-end c = c.plain_bytes_end-e.ensures.inside

pub shape_of-buf-then-e-text : goal.shape_of-buf-then-e-text
shape_of-buf-then-e-text c = wrote-length c.put_bytes-p.ensures ∙ c.loop-at.invariant.2

pub returns-then-e-text : goal.returns-then-e-text
unfolding clob_byte starts raw_byte
returns-then-e-text c =
    let l = c.loop-at in
    clob-bytes-at _ (l.invariant.3 _ _ (at-run _ plain-byte c.plain_bytes_end-e.ensures c.put_bytes-p.ensures (at-end refl (omega (arith, c.if-e-text.true)))))

pub bounds-text-e : goal.bounds-text-e
bounds-text-e c = omega (arith, c.if-e-text.false, c.plain_bytes_end-e.ensures.inside)

pub overflow_add-result : goal.overflow_add-result
overflow_add-result c = omega (arith, c.if-e-text.false, c.plain_bytes_end-e.ensures.inside)

pub shape_of-buf-then-text-e-eq34 : goal.shape_of-buf-then-text-e-eq34
shape_of-buf-then-text-e-eq34 c = wrote-length c.put_bytes-p.ensures ∙ c.loop-at.invariant.2

pub returns-then-text-e-eq34 : goal.returns-then-text-e-eq34
returns-then-text-e-eq34 c =
    let l = c.loop-at in
    clob-bytes-at _ (l.invariant.3 _ _ (at-run _ plain-byte c.plain_bytes_end-e.ensures c.put_bytes-p.ensures (at_mark (wrote-bound c.put_bytes-p.ensures) (search rules) (omega (arith, c.if-e-text.false, c.plain_bytes_end-e.ensures.inside)) c.if-text-e-eq34.true)))

pub clob_byte_at-requires : goal.clob_byte_at-requires
clob_byte_at-requires c = omega (arith, c.if-e-text.false, c.plain_bytes_end-e.ensures.inside)

pub shape_of-buf-in_err-s : goal.shape_of-buf-in_err-s
shape_of-buf-in_err-s c =
    let h = c.in_err-s.ensures in
    h.told.1.as_long ∙ wrote-length c.put_bytes-p.ensures ∙ c.loop-at.invariant.2

pub returns-in_err-s : goal.returns-in_err-s
returns-in_err-s c =
    let l = c.loop-at in
    let h = c.in_err-s.ensures in
    rw c.from_residual.ensures (clob-bytes-at _ (l.invariant.3 _ _ (at-run _ plain-byte c.plain_bytes_end-e.ensures c.put_bytes-p.ensures (at_wrong (omega (arith, c.if-e-text.false, c.plain_bytes_end-e.ensures.inside)) c.if-text-e-eq34.false h.told.0 h.told.1))))

pub loop-at-smaller : goal.loop-at-smaller
loop-at-smaller c =
    let h = c.in_ok-s.ensures in
    omega (arith, h.told.2, h.told.3, c.plain_bytes_end-e.ensures.ahead)

pub loop-at-preserved : goal.loop-at-preserved
loop-at-preserved c =
    let l = c.loop-at in
    let h = c.in_ok-s.ensures in
    let w = c.put_bytes-p.ensures in
    (omega (arith, h.told.2, c.plain_bytes_end-e.ensures.ahead), h.told.3, wrote-length h.told.4 ∙ wrote-length w ∙ l.invariant.2, λ r b' g. l.invariant.3 r b' (at-run r plain-byte c.plain_bytes_end-e.ensures w (at_piece r (omega (arith, c.if-e-text.false, c.plain_bytes_end-e.ensures.inside)) c.if-text-e-eq34.false h g)))
