-- `quoted::clob_at` meets its contract. Assumes nothing.
use native.Mathlib.Omega.{arith}
use Rattle.tokens.proofs.ClobSteps.{clob_unopened, clob-broken, clob_unclosed, clob-whole, stripped_no, stripped_yes}
use Rattle.tokens.proofs.Keeping.{kept_all, wrote_kept}
use borrow.Author.Rules.{rules}
use Rattle.tokens.proofs.quoted.clob_at.Goals as goal

pub returns-then-not-word_stands : goal.returns-then-not-word_stands
returns-then-not-word_stands c = record { told = (clob_unopened _ (stripped_no c.word_stands.ensures (c.if-not-word_stands.true)), kept_all) }

pub overflow_add-at : goal.overflow_add-at
overflow_add-at c = omega (arith, (stripped_yes c.word_stands.ensures (c.if-not-word_stands.false)).1)

pub clob_bytes_at-requires : goal.clob_bytes_at-requires
clob_bytes_at-requires c = (stripped_yes c.word_stands.ensures (c.if-not-word_stands.false)).1

pub returns-in_err-s : goal.returns-in_err-s
returns-in_err-s c =
    let h = c.in_err-s.ensures in
    rw c.from_residual.ensures record { told = (clob-broken _ _ (stripped_yes c.word_stands.ensures (c.if-not-word_stands.false)).0 h.told.0, h.told.1) }

pub word_stands-requires-2 : goal.word_stands-requires-2
word_stands-requires-2 c =
    let h = c.in_ok-s.ensures in
    h.told.3

pub returns-then-not-word_stands-2 : goal.returns-then-not-word_stands-2
returns-then-not-word_stands-2 c =
    let h = c.in_ok-s.ensures in
    record { told = (clob_unclosed _ _ _ _ (stripped_yes c.word_stands.ensures (c.if-not-word_stands.false)).0 h.told.1 (stripped_no c.word_stands-2.ensures (c.if-not-word_stands-2.true)), wrote_kept h.told.4) }

pub returns : goal.returns
returns c =
    let h = c.in_ok-s.ensures in
    let k = stripped_yes c.word_stands-2.ensures (c.if-not-word_stands-2.false) in
    record { told = (h.told.0, clob-whole _ _ _ _ _ (stripped_yes c.word_stands.ensures (c.if-not-word_stands.false)).0 h.told.1 k.0, omega (arith, h.told.2), k.1, h.told.4) }
