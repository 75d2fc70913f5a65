-- `tape::check::is_text` meets its contract. Assumes nothing.
use mathlib.Core.Path.{◌≡◌, sym, ap, ◌∙◌}
use Prim.Native.Nat.{◌+◌}
use lib.ListN.{take, drop}
use lib.Seq.{take-take}
use Rattle.output.specs.Wrote.{le_bytes}
use Rattle.output.proofs.Words.{take-le}
use Rattle.text_rules.specs.Utf8.{after, valid}
use Rattle.tape.proofs.check.is_text.Goals as goal

pub returns-then-n-eq0 : goal.returns-then-n-eq0
unfolding valid after
returns-then-n-eq0 c = rw c.if-n-eq0.true

pub returns-then-is_ascii : goal.returns-then-is_ascii
returns-then-is_ascii c =
    let a = c.args in
    let t = drop (a.at + 5) a.tape.now in
    let x = c.word_at.result in
    let low : take a.n t ≡ le_bytes a.n x = sym (take-take a.n 8 t c.if-n-le8.true) ∙ ap (take a.n) (sym c.word_at.ensures) ∙ take-le a.n 8 x c.if-n-le8.true in
    sym (ap valid low ∙ c.is_ascii.ensures c.if-is_ascii.true)
