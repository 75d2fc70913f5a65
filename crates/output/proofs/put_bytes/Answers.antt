-- `output::put_bytes` meets its contract. Assumes nothing.
use mathlib.Core.Path.{sym, ◌∙◌}
use Rattle.output.proofs.Laws.{sets-out, sets-room}
use borrow.Author.Rules.{rules}
use Rattle.output.proofs.put_bytes.Goals as goal
use Rattle.output.proofs.put_bytes.Goals.{then-pos-buf, else-pos-buf}

pub returns : goal.returns
returns c =
    let a = c.args in
    record {
      bytes =
          elim c.if-pos-buf.branch [
            | then-pos-buf w ↦ w.buf-is ∙ w.copy_at.ensures ∙ sets-room a.buf.now a.s.now a.pos w.min-n.result w.min-n.ensures
            | else-pos-buf w ↦ w.buf-is ∙ sym (sets-out a.buf.now a.pos a.s.now w.if-pos-buf.false)
          ];
      count = c.ahead.ensures;
      room = search rules;
    }
