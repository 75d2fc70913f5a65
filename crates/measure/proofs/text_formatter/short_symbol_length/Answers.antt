-- `text_formatter::short_symbol_length` meets its contract. Assumes nothing.
use mathlib.Core.Path.{sym, ◌∙◌}
use native.Mathlib.Omega.{arith}
use Rattle.measure.proofs.EscapeLengths.{word_body_most}
use Rattle.measure.specs.Steps.{quoting}
use Rattle.measure.proofs.SymbolLengths.{quotes_most, keyword_length, bare_length, number-length, other_length}
use Rattle.measure.proofs.text_formatter.short_symbol_length.Goals as goal

pub returns-then-is_keyword_word : goal.returns-then-is_keyword_word
returns-then-is_keyword_word c =
    λ z. keyword_length (quoting c.args.quotes) c.args.n c.args.x c.requires.le_n.0 c.if-x-eq36.false (sym c.is_identifier_word.ensures ∙ c.if-is_identifier_word.true) (sym c.is_keyword_word.ensures ∙ c.if-is_keyword_word.true)

pub overflow_add-result-then-starts_with_letter : goal.overflow_add-result-then-starts_with_letter
overflow_add-result-then-starts_with_letter c = record { fits = omega (arith, quotes_most (quoting c.args.quotes), c.requires) }

pub returns-then-starts_with_letter : goal.returns-then-starts_with_letter
returns-then-starts_with_letter c =
    λ z. omega (arith, c.requires.quotes_value, bare_length (quoting c.args.quotes) c.args.n c.args.x c.requires.le_n.0 c.if-x-eq36.false (sym c.is_identifier_word.ensures ∙ c.if-is_identifier_word.true) (sym c.starts_with_letter.ensures ∙ c.if-starts_with_letter.true) (sym c.is_keyword_word.ensures ∙ c.if-is_keyword_word.false))

pub returns-then-is_identifier_word : goal.returns-then-is_identifier_word
returns-then-is_identifier_word c =
    λ z. number-length (quoting c.args.quotes) c.args.n c.args.x c.requires.le_n.0 c.if-x-eq36.false (sym c.is_identifier_word.ensures ∙ c.if-is_identifier_word.true) (sym c.starts_with_letter.ensures ∙ c.if-starts_with_letter.false)

pub overflow_add-result-3 : goal.overflow_add-result-3
overflow_add-result-3 c = record { fits = omega (arith, c.escapes_add.ensures, word_body_most c.args.n c.args.x, c.requires.le_n.1) }

pub returns : goal.returns
returns c =
    let a = c.args in
    λ z. omega (arith, c.escapes_add.ensures, other_length (quoting a.quotes) a.n a.x (sym c.is_identifier_word.ensures ∙ c.if-is_identifier_word.false))
