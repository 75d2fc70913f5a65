-- `values::bare_symbol_at` meets its contract: each arm is told which kind it has. Assumes nothing.
use mathlib.Core.Path.{refl}
use Rattle.tokens.proofs.SymbolSteps.{other_word, bare_text, bare_number, bare_bad}
use Rattle.tokens.proofs.Keeping.{kept_all}
use borrow.Author.Rules.{rules}
use Rattle.tokens.proofs.values.bare_symbol_at.Goals as goal

pub slice_bounds-put_bytes-end : goal.slice_bounds-put_bytes-end
slice_bounds-put_bytes-end c =
    let i = (c.name_end-n.ensures c.if-at-n.true).inside in
    search rules

pub returns-then-at-n : goal.returns-then-at-n
returns-then-at-n c = bare_text (c.name_end-n.ensures c.if-at-n.true) refl c.put_bytes-q.ensures

pub returns-in-Text : goal.returns-in-Text
returns-in-Text c = bare_text c.word_at-w.ensures c.in-Text.is c.put_bytes-p.ensures

pub returns-in-Number : goal.returns-in-Number
returns-in-Number c = bare_number c.word_at-w.ensures _ c.in-Number.is refl

pub returns-in_default : goal.returns-in_default
returns-in_default c =
    bare_bad c.word_at-w.ensures _ refl (other_word _ _ c.in_default.not-Text c.in_default.not-Number) kept_all
