-- `parts::first_words_length` meets its contract: by one word, or by two. Assumes nothing.
use mathlib.Core.Path.{sym, ap, ◌∙◌}
use mathlib.Core.List.{List}
use native.Mathlib.Omega.{arith}
use Prim.Native.Nat.{ℕ}
use lib.ListN.{length}
use Rattle.text_rules.specs.Text.{symbol_text}
use Rattle.writer.proofs.Texts.{word_bytes}
use Rattle.measure.specs.Steps.{quoting}
use Rattle.measure.proofs.SymbolLengths.{nothing-length, two_words}
use Rattle.measure.proofs.parts.first_words_length.Goals as goal

pub returns-then-n-eq0 : goal.returns-then-n-eq0
returns-then-n-eq0 c = λ h. rw c.if-n-eq0.true (sym (nothing-length _))

pub short_symbol_length-requires : goal.short_symbol_length-requires
short_symbol_length-requires c =
    let z = c.if-n-eq0.false in let k = c.if-n-le8.true in record { quotes_value = c.requires.quotes_value; le_n = (omega arith, omega arith) }

pub returns-then-n-le8 : goal.returns-then-n-le8
returns-then-n-le8 c =
    let a = c.args in
    λ h. c.short_symbol_length.ensures h ∙ ap (λ (l : List ℕ). length (symbol_text (quoting a.quotes) l)) (word_bytes a.s.now 0 a.n _ c.word_at.ensures c.if-n-le8.true)

pub long_symbol_length-requires : goal.long_symbol_length-requires
long_symbol_length-requires c = let m = c.if-n-le8.false in let k = c.requires.n_bound in record { quotes_value = c.requires.quotes_value; le_n = (omega arith, omega arith) }

pub returns : goal.returns
returns c =
    let a = c.args in
    let m = c.if-n-le8.false in
    λ h. c.long_symbol_length.ensures h
    ∙ ap (λ (l : List ℕ). length (symbol_text (quoting a.quotes) l)) (two_words a.s.now 0 a.n _ _ (omega arith) c.requires.n_bound c.word_at-2.ensures c.word_at-3.ensures)
