-- `blobs::put_base64` meets its contract. Assumes nothing.
use mathlib.Core.Path.{ap, ◌∙◌}
use Prim.Native.Nat.{ℕ, ◌+◌, ◌-◌, ◌*◌, ◌/◌, ◌%◌}
use native.Mathlib.Omega.{arith}
use lib.ListN.{take, drop}
use Rattle.output.specs.Wrote.{Wrote}
use Rattle.output.proofs.Laws.{wrote-past, wrote_then}
use Rattle.text_rules.specs.Base64.{base64}
use Rattle.text_rules.proofs.Base64Laws.{base64-length, base64-next, part_length}
use borrow.Author.Rules.{rules}
use Rattle.text_rules.proofs.blobs.put_base64.Goals as goal
use Rattle.text_rules.proofs.blobs.put_base64.Goals.{then-whole-buf, else-whole-buf}

pub returns-then-buf-pos : goal.returns-then-buf-pos
returns-then-buf-pos c =
    let a = c.args in
    let t = take a.n (drop a.from a.s.now) in
    let l = part_length a.s.now a.from a.n (omega arith) in
    wrote-past _ _ _ _ (base64 t) c.if-buf-pos.true (search rules) (base64-length t ∙ ap (λ (k : ℕ). (k + 2) / 3 * 4) l) c.ahead.ensures

pub returns : goal.returns
returns c =
    let a = c.args in
    let whole : Wrote a.buf.now c.if-whole-buf.buf a.pos c.if-whole-buf.p (base64 (take (a.n - a.n % 3) (drop a.from a.s.now))) =
    elim c.if-whole-buf.branch [ then-whole-buf w ↦ rw (w.buf-is, w.p-is) w.put_whole-p.ensures | else-whole-buf w ↦ rw (w.buf-is, w.p-is) w.put_groups-p.ensures ] in
    rw (base64-next a.s.now a.from a.n (a.n - a.n % 3) (a.n % 3) (omega arith) (omega arith) (omega arith)) (wrote_then whole c.put_last.ensures)
