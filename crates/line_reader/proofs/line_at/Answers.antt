-- `line_reader::line_at` meets its contract. Its three ways are those of `step`. Assumes nothing.
use mathlib.Core.Path.{sym}
use native.Mathlib.Omega.{arith}
use lib.ListN.{drop, length-drop}
use Rattle.line_reader.specs.Book.{end_mark}
use Rattle.line_reader.specs.Calls.{past_text, called}
use Rattle.line_reader.proofs.LineLaws.{step_read}
use Rattle.line_reader.proofs.CutLaws.{first-within}
use Rattle.line_reader.proofs.BookLaws.{step_past, step_end}
use Rattle.line_reader.proofs.line_at.Goals as goal

pub returns-then-n-at : goal.returns-then-n-at
unfolding called past_text
returns-then-n-at c =
    let a = c.args in
    sym (step_past a.text.now a.at a.out.now (omega arith))

pub returns-then-at-n : goal.returns-then-at-n
unfolding called end_mark
returns-then-at-n c =
    let a = c.args in
    sym (step_end a.text.now a.at a.out.now (omega arith))

pub slice_bounds-read_line-end : goal.slice_bounds-read_line-end
slice_bounds-read_line-end c =
    let a = c.args in
    omega (arith, c.line_end-end.ensures, first-within (drop a.at a.text.now), length-drop a.at a.text.now)

pub returns : goal.returns
returns c =
    let a = c.args in
    let r = c.read_line-answer in
    step_read a.text.now a.at a.out.now c.line_end-end.result r.result r.new.out (omega arith) c.line_end-end.ensures (r.ensures a.at)
