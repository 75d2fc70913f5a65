-- `line_reader::line_end` meets its contract. The loop carries that the offset sought is the same from each place passed. Assumes nothing.
use mathlib.Core.Path.{◌≡◌, sym, ◌∙◌}
use native.Mathlib.Omega.{arith}
use lib.ListN.{length}
use borrow.Author.Rules.{rules}
use Rattle.line_reader.proofs.LineLaws.{first_found, first_more, first-none}
use Rattle.line_reader.proofs.line_end.Goals as goal

pub returns-then-text-i-eq10 : goal.returns-then-text-i-eq10
returns-then-text-i-eq10 c = sym (c.loop-i.invariant.1 ∙ first_found c.args.text.now c.loop-i.i c.loop-i-test.true c.if-text-i-eq10.true)

pub loop-i-preserved : goal.loop-i-preserved
loop-i-preserved c = (search rules, c.loop-i.invariant.1 ∙ first_more c.args.text.now c.loop-i.i c.loop-i-test.true c.if-text-i-eq10.false)

pub returns : goal.returns
returns c =
    let t = c.args.text.now in
    let e : c.loop-i.i ≡ length t = omega arith in
    sym (rw e at (c.loop-i.invariant.1 ∙ first-none t c.loop-i.i c.loop-i-test.false))
