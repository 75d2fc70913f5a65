-- `words::word_at` meets its contract. Assumes nothing.
use mathlib.Core.Path.{sym, ap, ◌∙◌}
use native.Mathlib.Omega.{arith}
use Rattle.text_rules.specs.Words.{kind_of}
use Rattle.text_rules.proofs.WordsLaws.{spanned_none, spanned_long, spanned_identifier, kind-nothing}
use Rattle.text_rules.proofs.words.word_at.Goals as goal

pub returns-then-end-at : goal.returns-then-end-at
returns-then-end-at c =
    let s = c.word_end-end.ensures in
    record { ahead = s.ahead; inside = s.inside; rest = s.rest; bytes = s.bytes; kind = sym (ap kind_of (spanned_none s c.if-end-at.true) ∙ kind-nothing) }

pub known_kind-kind-requires : goal.known_kind-kind-requires
known_kind-kind-requires c =
    let s = c.word_end-end.ensures in
    let a = s.ahead in
    let l = spanned_long s in
    (omega arith, c.is_start.ensures ∙ spanned_identifier s (omega arith))

pub returns-else-end-at : goal.returns-else-end-at
returns-else-end-at c =
    let s = c.word_end-end.ensures in
    record { ahead = s.ahead; inside = s.inside; rest = s.rest; bytes = s.bytes; kind = c.known_kind-kind.ensures ∙ ap kind_of s.bytes }
