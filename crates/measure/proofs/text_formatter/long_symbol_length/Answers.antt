-- `text_formatter::long_symbol_length` meets its contract. Assumes nothing.
use Prim.Native.Nat.{◌-◌}
use mathlib.Core.Path.{◌≡◌, refl, sym, ◌∙◌}
use mathlib.Core.Bool.{Bool, true, false, ◌&&◌}
use native.Mathlib.Omega.{arith}
use Rattle.output.specs.Wrote.{le_bytes}
use Rattle.lanes.specs.Lanes.{every, unmarked_by, no_part}
use Rattle.measure.specs.Steps.{quoting}
use Rattle.measure.proofs.EscapeLengths.{word_body_most}
use Rattle.measure.proofs.SymbolLengths.{quotes_most, words_bare, words-number, words-other}
use Rattle.measure.proofs.text_formatter.long_symbol_length.Goals as goal
use Rattle.measure.proofs.text_formatter.long_symbol_length.Goals.{then-is_identifier_word+else-is_identifier_word-2, else-is_identifier_word}

pub overflow_add-result : goal.overflow_add-result
overflow_add-result c = record { fits = omega (arith, quotes_most (quoting c.args.quotes), c.requires) }

pub returns-then-starts_with_letter : goal.returns-then-starts_with_letter
returns-then-starts_with_letter c =
    λ z. omega (arith, c.requires.quotes_value, words_bare (quoting c.args.quotes) c.args.n c.args.x c.args.y c.requires.le_n.0 c.requires.le_n.1 c.if-x-eq36.false (sym c.is_identifier_word.ensures ∙ c.if-is_identifier_word.true) (sym c.is_identifier_word-then-is_identifier_word.ensures ∙ c.if-is_identifier_word-2.true) (sym c.starts_with_letter.ensures ∙ c.if-starts_with_letter.true))

pub returns-then-is_identifier_word-2 : goal.returns-then-is_identifier_word-2
returns-then-is_identifier_word-2 c =
    λ z. words-number (quoting c.args.quotes) c.args.n c.args.x c.args.y c.requires.le_n.0 c.requires.le_n.1 c.if-x-eq36.false (sym c.is_identifier_word.ensures ∙ c.if-is_identifier_word.true) (sym c.is_identifier_word-then-is_identifier_word.ensures ∙ c.if-is_identifier_word-2.true) (sym c.starts_with_letter.ensures ∙ c.if-starts_with_letter.false)

pub overflow_add-result-3 : goal.overflow_add-result-3
overflow_add-result-3 c = record { fits = omega (arith, c.escapes_add.ensures, word_body_most 8 c.args.x, c.requires.le_n.1) }

pub overflow_add-result-4 : goal.overflow_add-result-4
overflow_add-result-4 c =
    record { fits = omega (arith, c.escapes_add.ensures, c.escapes_add-2.ensures, word_body_most 8 c.args.x, word_body_most (c.args.n - 8) c.args.y, c.requires.le_n.1) }

second : (p q : Bool) → q ≡ false → p && q ≡ false
second true q h = h
second false q h = refl

pub returns : goal.returns
returns c =
    let a = c.args in
    -- of one of the words not all bytes are an identifier's
    let n : every (unmarked_by no_part) (le_bytes 8 a.x) && every (unmarked_by no_part) (le_bytes (a.n - 8) a.y) ≡ false =
    elim c.if-is_identifier_word.branch [
      | then-is_identifier_word+else-is_identifier_word-2 w ↦ second (every (unmarked_by no_part) (le_bytes 8 a.x)) _ (sym w.is_identifier_word-then-is_identifier_word.ensures ∙ w.if-is_identifier_word-2.false)
      | else-is_identifier_word w ↦ rw (sym c.is_identifier_word.ensures ∙ w.if-is_identifier_word.false)
    ] in
    λ z. omega (arith, c.escapes_add.ensures, c.escapes_add-2.ensures, words-other (quoting a.quotes) a.n a.x a.y c.requires.le_n.0 c.requires.le_n.1 n)
