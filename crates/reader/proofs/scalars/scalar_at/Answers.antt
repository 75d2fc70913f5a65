-- `scalars::scalar_at` meets its contract. Assumes nothing.
use native.Mathlib.Omega.{arith}
use mathlib.Core.Path.{sym, ◌∙◌}
use Rattle.tokens.proofs.Keeping.{kept_all}
use Rattle.reader.proofs.ScalarSteps.{scalar-end, scalar-string, scalar-quoted, scalar-braces, scalar-number, scalar-word}
use Rattle.reader.proofs.scalars.scalar_at.Goals as goal

pub returns-then-at-text : goal.returns-then-at-text
returns-then-at-text c =
    let x = c.args in
    (scalar-end _ x.m x.text.now x.at c.if-at-text.true, kept_all)

pub string_at-requires : goal.string_at-requires
string_at-requires c = (omega (arith, c.if-at-text.false, c.requires.0), c.requires.1, c.if-b-eq34.true)

pub returns-then-b-eq34 : goal.returns-then-b-eq34
returns-then-b-eq34 c =
    let x = c.args in
    rw (scalar-string _ x.m x.text.now x.at (omega (arith, c.if-at-text.false, c.requires.0)) c.if-b-eq34.true) c.string_at.ensures

pub returns-then-b-eq39 : goal.returns-then-b-eq39
returns-then-b-eq39 c =
    let x = c.args in
    scalar-quoted _ x.m x.text.now x.at (omega (arith, c.if-at-text.false, c.requires.0)) c.if-b-eq34.false x.pos x.buf.now c.symbol_at.new.buf c.symbol_at.result c.if-b-eq39.true c.symbol_at.ensures

pub returns-then-b-eq123 : goal.returns-then-b-eq123
returns-then-b-eq123 c =
    let x = c.args in
    rw (scalar-braces _ x.m x.text.now x.at (omega (arith, c.if-at-text.false, c.requires.0)) c.if-b-eq34.false c.if-b-eq39.false c.if-b-eq123.true) c.braces_at.ensures

pub number_at-requires : goal.number_at-requires
number_at-requires c = (omega (arith, c.if-at-text.false, c.requires.0), c.requires.1)

pub returns-then-is_numeric : goal.returns-then-is_numeric
returns-then-is_numeric c =
    let x = c.args in
    rw (scalar-number _ x.m x.text.now x.at (omega (arith, c.if-at-text.false, c.requires.0)) c.if-b-eq34.false c.if-b-eq39.false c.if-b-eq123.false (sym c.is_numeric.ensures ∙ c.if-is_numeric.true)) c.number_at.ensures

pub returns : goal.returns
returns c =
    let x = c.args in
    rw (scalar-word _ x.m x.text.now x.at (omega (arith, c.if-at-text.false, c.requires.0)) c.if-b-eq34.false c.if-b-eq39.false c.if-b-eq123.false (sym c.is_numeric.ensures ∙ c.if-is_numeric.false)) c.word_at.ensures
