-- `words::name_end` meets its contract. Assumes nothing.
use mathlib.Core.Path.{sym, ◌∙◌}
use native.Mathlib.Omega.{arith}
use Rattle.text_rules.proofs.WordsLaws.{spanned_long, spanned_name}
use Rattle.text_rules.proofs.words.name_end.Goals as goal

pub is_keyword-requires : goal.is_keyword-requires
is_keyword-requires c =
    let s = c.word_end-end.ensures in
    let a = s.ahead in
    let l = spanned_long s in
    omega arith

pub returns : goal.returns
returns c =
    let s = c.word_end-end.ensures in
    λ h. record { ahead = s.ahead; inside = s.inside; rest = s.rest; bytes = s.bytes; kind = sym (spanned_name s h c.if-text-at-lt65.false (sym c.is_keyword.ensures ∙ c.if-is_keyword.false)) }
