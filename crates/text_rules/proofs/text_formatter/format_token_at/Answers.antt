-- `text_formatter::format_token_at` meets its contract. Assumes nothing.
use Prim.Native.Nat.{◌+◌, ◌-◌}
use mathlib.Core.Path.{◌≡◌, sym, ◌∙◌}
use native.Mathlib.Omega.{arith}
use lib.ListN.{take, drop}
use Rattle.output.specs.Wrote.{le_bytes}
use Rattle.text_rules.proofs.SymbolsText.{symbol_bare}
use Rattle.text_rules.proofs.LaneTests.{word-part, part-word, raw_word, word_bare, symbol-quoted, keyword_marked, keyword_raw, other-marked}
use Rattle.text_rules.proofs.text_formatter.format_token_at.Goals as goal

pub returns-then-is_keyword_word : goal.returns-then-is_keyword_word
returns-then-is_keyword_word c =
    let a = c.args in
    let x = c.word_at-x.result in
    let e : le_bytes a.n x ≡ take a.n (drop a.from a.s.now) = word-part a.s.now a.from a.n x c.if-n-le8.true c.word_at-x.ensures in
    let k = sym c.is_keyword_word.ensures ∙ c.if-is_keyword_word.true in
    rw (sym e, symbol-quoted _ (le_bytes a.n x) (keyword_marked _ k) (keyword_raw _ k)) c.put_quoted_word.ensures

pub returns-then-starts_with_letter : goal.returns-then-starts_with_letter
returns-then-starts_with_letter c =
    let a = c.args in
    let x = c.word_at-x.result in
    let e : le_bytes a.n x ≡ take a.n (drop a.from a.s.now) = word-part a.s.now a.from a.n x c.if-n-le8.true c.word_at-x.ensures in
    let p = sym (part-word a.n x) ∙ sym c.is_identifier_word.ensures ∙ c.if-is_identifier_word.true in
    let k = sym c.is_keyword_word.ensures ∙ c.if-is_keyword_word.false in
    let b = word_bare a.n x c.if-n-ge1.true p (sym c.starts_with_letter.ensures ∙ c.if-starts_with_letter.true) k in
    rw (sym e, symbol_bare (le_bytes a.n x) b) c.put_le.ensures

pub returns-then-is_raw_word : goal.returns-then-is_raw_word
returns-then-is_raw_word c =
    let a = c.args in
    let x = c.word_at-x.result in
    let e : le_bytes a.n x ≡ take a.n (drop a.from a.s.now) = word-part a.s.now a.from a.n x c.if-n-le8.true c.word_at-x.ensures in
    let o = other-marked (le_bytes a.n x) (sym (part-word a.n x) ∙ sym c.is_identifier_word.ensures ∙ c.if-is_identifier_word.false) in
    rw (sym e, symbol-quoted _ (le_bytes a.n x) o (raw_word a.n x (sym c.is_raw_word.ensures ∙ c.if-is_raw_word.true))) c.put_quoted_word-then-is_raw_word.ensures

pub returns : goal.returns
returns c =
    let a = c.args in
    let e : a.from + a.n - a.from ≡ a.n = omega arith in
    rw e at c.format_symbol_token.ensures
