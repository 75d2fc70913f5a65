-- `program_io::find` meets its contract. Assumes nothing.
use native.Mathlib.Omega.{arith}
use Rattle.program_io.proofs.Parts.{found, passed, nowhere}
use Rattle.program_io.proofs.find.Goals as goal

pub returns-then-input-i : goal.returns-then-input-i
returns-then-input-i c =
    let a = c.args in
    let l = c.loop-i in
    let d = found a.x a.input.now l.i c.loop-i-test.true c.if-input-i.true in
    (omega arith, omega arith)

pub loop-i-preserved : goal.loop-i-preserved
loop-i-preserved c =
    let a = c.args in
    let l = c.loop-i in
    let d = passed a.x a.input.now l.i c.loop-i-test.true c.if-input-i.false in
    omega arith

pub returns : goal.returns
returns c =
    let a = c.args in
    let l = c.loop-i in
    let d = nowhere a.x a.input.now l.i c.loop-i-test.false in
    (omega arith, omega arith)
