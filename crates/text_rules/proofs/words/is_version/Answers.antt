-- `words::is_version` meets its contract. Assumes nothing.
use mathlib.Core.Path.{sym, ◌∙◌}
use native.Mathlib.Omega.{arith}
use Rattle.text_rules.proofs.WordsLaws.{version-end, version-other, version_behind}
use Rattle.text_rules.proofs.words.is_version.Goals as goal
use Rattle.text_rules.proofs.words.is_version.Goals.{then-from-w-via-then-from-w, then-from-w-via-else-from-w+then-not-is_digit}

pub returns-then-from-w : goal.returns-then-from-w
returns-then-from-w c =
    let x = c.args in
    sym (elim c.then-from-w.branch [
      | then-from-w-via-then-from-w w ↦ version-end x.w.now x.from w.if-from-w.true
      | then-from-w-via-else-from-w+then-not-is_digit w ↦ version-other x.w.now x.from (omega arith) (sym w.is_digit.ensures ∙ w.if-not-is_digit.true)
    ])

pub returns-then-stands : goal.returns-then-stands
returns-then-stands c =
    let x = c.args in
    sym (version_behind x.w.now x.from (omega arith) (sym c.is_digit.ensures ∙ c.if-not-is_digit.false) c.digits_end-e.ensures ∙ rw (sym c.stands.ensures.is, c.if-stands.true, c.all_digits.ensures))

pub returns-else-stands : goal.returns-else-stands
returns-else-stands c =
    let x = c.args in
    sym (version_behind x.w.now x.from (omega arith) (sym c.is_digit.ensures ∙ c.if-not-is_digit.false) c.digits_end-e.ensures ∙ rw (sym c.stands.ensures.is, c.if-stands.false))
