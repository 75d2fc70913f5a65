-- `tape::check::scalar_size` meets its contract: each kind by its own function. Assumes nothing.
use mathlib.Core.Path.{sym, ap, ◌∙◌}
use Rattle.tape.specs.Bytes.{part}
use Rattle.tape.specs.CheckSteps.{scalar_code}
use Rattle.tape.proofs.Parts.{part-first}
use Rattle.tape.proofs.CodeReading.{scalar-null, scalar-bool, scalar_int, scalar-float, scalar_decimal, scalar-timestamp, scalar-symbol, scalar-string, scalar-clob}
use Rattle.tape.proofs.CodeFacts.{six_on, to_seven, code-symbol, code-string, code-clob}
use Rattle.tape.proofs.check.scalar_size.Goals as goal

pub returns-then-k-eq0 : goal.returns-then-k-eq0
returns-then-k-eq0 c =
    let a = c.args in
    let f = part-first a.tape.now a.at a.end c.requires.at_lt_end in
    c.null_size.ensures ∙ sym (ap scalar_code (scalar-null _ (f ∙ c.if-k-eq0.true)))

pub returns-then-k-eq1 : goal.returns-then-k-eq1
returns-then-k-eq1 c =
    let a = c.args in
    let f = part-first a.tape.now a.at a.end c.requires.at_lt_end in
    c.bool_size.ensures ∙ sym (ap scalar_code (scalar-bool _ (f ∙ c.if-k-eq1.true)))

pub returns-then-k-eq2 : goal.returns-then-k-eq2
returns-then-k-eq2 c =
    let a = c.args in
    let f = part-first a.tape.now a.at a.end c.requires.at_lt_end in
    c.int_size.ensures ∙ sym (ap scalar_code (scalar_int _ (f ∙ c.if-k-eq2.true)))

pub returns-then-k-eq3 : goal.returns-then-k-eq3
returns-then-k-eq3 c =
    let a = c.args in
    let f = part-first a.tape.now a.at a.end c.requires.at_lt_end in
    c.float_size.ensures ∙ sym (ap scalar_code (scalar-float _ (f ∙ c.if-k-eq3.true)))

pub returns-then-k-eq4 : goal.returns-then-k-eq4
returns-then-k-eq4 c =
    let a = c.args in
    let f = part-first a.tape.now a.at a.end c.requires.at_lt_end in
    c.decimal_size.ensures ∙ sym (ap scalar_code (scalar_decimal _ (f ∙ c.if-k-eq4.true)))

pub returns-then-k-eq5 : goal.returns-then-k-eq5
returns-then-k-eq5 c =
    let a = c.args in
    let f = part-first a.tape.now a.at a.end c.requires.at_lt_end in
    c.timestamp_size.ensures ∙ sym (ap scalar_code (scalar-timestamp _ (f ∙ c.if-k-eq5.true)))

pub returns-then-k-eq8 : goal.returns-then-k-eq8
returns-then-k-eq8 c =
    let a = c.args in
    let f = part-first a.tape.now a.at a.end c.requires.at_lt_end in
    c.text_size.ensures ∙ code-string _ ∙ sym (ap scalar_code (scalar-string _ (f ∙ c.if-k-eq8.true)))

pub returns-then-k-eq9 : goal.returns-then-k-eq9
returns-then-k-eq9 c =
    let a = c.args in
    let f = part-first a.tape.now a.at a.end c.requires.at_lt_end in
    c.span.ensures ∙ code-clob _ ∙ sym (ap scalar_code (scalar-clob _ (f ∙ c.if-k-eq9.true)))

pub returns : goal.returns
returns c =
    let a = c.args in
    let l = part a.tape.now a.at a.end in
    let f = part-first a.tape.now a.at a.end c.requires.at_lt_end in
    let six = six_on _ c.if-k-eq0.false c.if-k-eq1.false c.if-k-eq2.false c.if-k-eq3.false c.if-k-eq4.false c.if-k-eq5.false in
    let seven = to_seven _ c.if-k-eq8.false c.if-k-eq9.false (rw (← f) c.requires.end_bound) in
    c.sym_size.ensures ∙ code-symbol l ∙ sym (ap scalar_code (scalar-symbol l (rw f six) (rw f seven)))
