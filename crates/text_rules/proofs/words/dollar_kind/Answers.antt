-- `words::dollar_kind` meets its contract. Assumes nothing.
use mathlib.Core.Path.{sym, ◌∙◌}
use mathlib.Core.Bool.{true, false}
use Rattle.text_rules.proofs.WordsLaws.{dollar_marker, dollar_version, dollar_number, dollar_other, digits_long}
use Rattle.text_rules.proofs.words.dollar_kind.Goals as goal

pub returns-then-same_word : goal.returns-then-same_word
returns-then-same_word c =
    sym (dollar_marker _ c.requires.0 (sym c.token_resembles_version_marker.ensures ∙ c.if-token_resembles_version_marker.true) (sym c.same_word.ensures ∙ c.if-same_word.true))

pub returns-else-same_word : goal.returns-else-same_word
returns-else-same_word c =
    sym (dollar_version _ c.requires.0 (sym c.token_resembles_version_marker.ensures ∙ c.if-token_resembles_version_marker.true) (sym c.same_word.ensures ∙ c.if-same_word.false))

pub symbol_id-requires : goal.symbol_id-requires
symbol_id-requires c = digits_long c.args.w.now (sym c.all_digits.ensures ∙ c.if-all_digits.true)

pub returns-then-all_digits : goal.returns-then-all_digits
returns-then-all_digits c =
    c.symbol_id.ensures ∙ sym (dollar_number _ c.requires.0 (sym c.token_resembles_version_marker.ensures ∙ c.if-token_resembles_version_marker.false) (sym c.all_digits.ensures ∙ c.if-all_digits.true))

pub returns-then-identifier : goal.returns-then-identifier
returns-then-identifier c =
    sym (dollar_other _ c.requires.0 (sym c.token_resembles_version_marker.ensures ∙ c.if-token_resembles_version_marker.false) (sym c.all_digits.ensures ∙ c.if-all_digits.false) true (sym c.requires.1 ∙ c.if-identifier.true))

pub returns-else-identifier : goal.returns-else-identifier
returns-else-identifier c =
    sym (dollar_other _ c.requires.0 (sym c.token_resembles_version_marker.ensures ∙ c.if-token_resembles_version_marker.false) (sym c.all_digits.ensures ∙ c.if-all_digits.false) false (sym c.requires.1 ∙ c.if-identifier.false))
