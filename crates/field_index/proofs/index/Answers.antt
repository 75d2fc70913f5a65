-- `field_index::index` meets its contract. Assumes nothing.
use Rattle.std.proofs.Common.{◌≡◌, ℕ, ap, ◌∙◌, take, arith}
use Rattle.std.proofs.Math.Seq.{sets}
use Rattle.field_index.proofs.IndexLaws.{fields_in, there, filled_next, stored, counted_told}
use Rattle.field_index.proofs.index.Goals as goal

pub read_field-next-requires : goal.read_field-next-requires
read_field-next-requires c =
    let i = c.loop-k.invariant.filled in
    (i.body, there c.args.tape.now c.in_ok-f.f c.loop-k.k c.loop-k.from i c.loop-k-test.true)

pub loop-k-preserved : goal.loop-k-preserved
loop-k-preserved c =
    let l = c.loop-k in
    let i = l.invariant in
    let t = c.args.tape.now in
    rw c.read_field-next.ensures (record {
      filled = filled_next t c.in_ok-f.f l.k l.from i.filled c.loop-k-test.true;
      stored = rw i.stored (stored t c.in_ok-f.f l.k l.from i.filled c.loop-k-test.true c.args.entries.now);
    })

pub returns : goal.returns
returns c =
    let l = c.loop-k in
    let same : l.k ≡ c.in_ok-f.f.count = omega arith in
    let e = counted_told c.args.tape.now c.args.at c.in_ok-f.f c.args.entries.now l.entries c.in_ok-f.ensures (l.invariant.stored ∙ ap (λ (k : ℕ). sets c.args.entries.now 0 (take k (fields_in c.args.tape.now c.in_ok-f.f.from c.in_ok-f.f.end))) same) in
    rw c.sort.ensures e
