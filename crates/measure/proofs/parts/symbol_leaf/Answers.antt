-- `parts::symbol_leaf` meets its contract: its size is validation's, its length that of a word or two. Assumes nothing.
use mathlib.Core.Path.{◌≡◌, sym, ◌∙◌}
use mathlib.Core.List.{List}
use mathlib.Core.Bool.{Bool}
use native.Mathlib.Omega.{arith}
use Prim.Native.Nat.{ℕ, ◌+◌, ◌-◌, ◌<◌, ◌≤◌}
use lib.ListN.{length, get_or, take, drop}
use Rattle.text_rules.specs.Text.{symbol_text}
use Rattle.tape.specs.Bytes.{part}
use Rattle.tape.specs.Tape.{scalar_of, text_of, text_fault}
use Rattle.tape.specs.CheckSteps.{code_of, scalar_code}
use Rattle.tape.proofs.Parts.{trailed}
use Rattle.measure.specs.Sums.{leaf_length}
use Rattle.measure.specs.Steps.{quoting}
use Rattle.measure.proofs.SymbolLengths.{quotes_most}
use Rattle.measure.proofs.PartLaws.{word-code, word_room, word-length}
use Rattle.measure.proofs.parts.symbol_leaf.Goals as goal

-- its size is validation's, its text is that of its bytes, and eight bytes stand behind it
module _ (quoted : Bool) (s : List ℕ) (at e z : ℕ) (l : at < e) (r : e + 8 ≤ length s) (k : get_or s at 0 ≡ 6) (c : z ≡ code_of text_fault (text_of (part s at e))) where
  size_is : z ≡ scalar_code (scalar_of (part s at e))
  size_is = word-code quoted s at e l (trailed r) z k c

  length-is : 2 ≤ z → length (symbol_text quoted (take (z - 5) (drop (at + 5) s))) ≡ leaf_length quoted (part s at e)
  length-is h = sym (word-length quoted s at e l (trailed r) z k c h)

  trailer : 5 ≤ z → at + 5 + (z - 5) + 8 ≤ length s
  trailer h = let w = word_room quoted s at e l (trailed r) z k c (omega arith) in omega arith

pub returns-then-size-lt5 : goal.returns-then-size-lt5
returns-then-size-lt5 c = record { size = size_is (quoting c.args.quotes) c.args.tape.now c.args.at c.args.end _ c.requires.at_lt_end c.requires.end_in_bounds c.requires.at_value c.word_size-size.ensures; length = λ h p. absurd (omega arith) }

pub plain_at-requires : goal.plain_at-requires
plain_at-requires c = trailer (quoting c.args.quotes) c.args.tape.now c.args.at c.args.end _ c.requires.at_lt_end c.requires.end_in_bounds c.requires.at_value c.word_size-size.ensures c.if-size-lt5.false

pub overflow_add-result : goal.overflow_add-result
overflow_add-result c =
    record { fits = omega (arith, trailer (quoting c.args.quotes) c.args.tape.now c.args.at c.args.end _ c.requires.at_lt_end c.requires.end_in_bounds c.requires.at_value c.word_size-size.ensures c.if-size-lt5.false, c.well_formed, c.requires.quotes_value, quotes_most (quoting c.args.quotes)) }

pub returns-then-plain_at : goal.returns-then-plain_at
returns-then-plain_at c =
    let q = c.plain_at.ensures c.if-plain_at.true (quoting c.args.quotes) in
    let m = c.requires.quotes_value in
    record { size = size_is (quoting c.args.quotes) c.args.tape.now c.args.at c.args.end _ c.requires.at_lt_end c.requires.end_in_bounds c.requires.at_value c.word_size-size.ensures; length = λ h p. omega (arith, q, m, length-is (quoting c.args.quotes) c.args.tape.now c.args.at c.args.end _ c.requires.at_lt_end c.requires.end_in_bounds c.requires.at_value c.word_size-size.ensures h) }

pub returns-then-n-gt16 : goal.returns-then-n-gt16
returns-then-n-gt16 c = record { size = size_is (quoting c.args.quotes) c.args.tape.now c.args.at c.args.end _ c.requires.at_lt_end c.requires.end_in_bounds c.requires.at_value c.word_size-size.ensures; length = λ h p. absurd (omega arith) }

pub words_length-requires : goal.words_length-requires
words_length-requires c =
    record { n_in_bounds = trailer (quoting c.args.quotes) c.args.tape.now c.args.at c.args.end _ c.requires.at_lt_end c.requires.end_in_bounds c.requires.at_value c.word_size-size.ensures c.if-size-lt5.false; n_bound = c.if-n-gt16.false; quotes_value = c.requires.quotes_value }

pub returns : goal.returns
returns c =
    record { size = size_is (quoting c.args.quotes) c.args.tape.now c.args.at c.args.end _ c.requires.at_lt_end c.requires.end_in_bounds c.requires.at_value c.word_size-size.ensures; length = λ h p. c.words_length.ensures p ∙ length-is (quoting c.args.quotes) c.args.tape.now c.args.at c.args.end _ c.requires.at_lt_end c.requires.end_in_bounds c.requires.at_value c.word_size-size.ensures h }
