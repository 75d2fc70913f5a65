-- `parts::plain_at` meets its contract. Assumes nothing.
use mathlib.Core.Path.{sym, ap, ◌∙◌}
use mathlib.Core.List.{List}
use Prim.Native.Nat.{ℕ, ◌+◌}
use lib.ListN.{length}
use Rattle.output.proofs.Laws.{length-le}
use Rattle.text_rules.specs.Text.{symbol_text}
use Rattle.writer.proofs.Texts.{word_bytes}
use Rattle.measure.specs.Steps.{quotes_of}
use Rattle.measure.proofs.SymbolLengths.{open_length, stands_open}
use Rattle.measure.proofs.parts.plain_at.Goals as goal

pub returns-then-n-le8 : goal.returns-then-n-le8
returns-then-n-le8 c =
    let a = c.args in
    let w = word_bytes a.tape.now a.from a.n _ c.word_at.ensures c.if-n-le8.true.1 in
    λ e quoted. ap (λ (l : List ℕ). length (symbol_text quoted l)) (sym w) ∙ open_length quoted _ (stands_open _ (c.is_plain.ensures e)) ∙ ap (λ (j : ℕ). j + quotes_of quoted) (length-le a.n _)
