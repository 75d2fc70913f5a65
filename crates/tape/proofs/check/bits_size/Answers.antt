-- `tape::check::bits_size` meets its contract: each answer by the tests that led to it. Assumes nothing.
use Prim.Native.Nat.{◌%◌}
use mathlib.Core.Path.{sym}
use native.Mathlib.Omega.{arith}
use lib.Ieee.{binary64, of_bits}
use borrow.Author.Tests.{eq-eqb, ne_eqb, lt-ltb, le-ltb}
use Rattle.tape.specs.Tape.{float_as, float_fault, scalar_fault}
use Rattle.tape.proofs.CodeFloats.{whole-low, whole-fault, inf-fault, other-fault}
use Rattle.tape.proofs.check.bits_size.Goals as goal

pub returns-then-b-eq9221120237041090560 : goal.returns-then-b-eq9221120237041090560
unfolding float_as float_fault scalar_fault
returns-then-b-eq9221120237041090560 c = simp (eq-eqb _ _ c.if-b-eq9221120237041090560.true)

pub returns-then-m-eq9218868437227405312 : goal.returns-then-m-eq9218868437227405312
unfolding float_as scalar_fault
returns-then-m-eq9218868437227405312 c =
    let b = c.args.b in
    simp (ne_eqb _ _ c.if-b-eq9221120237041090560.false, le-ltb 0x7FF0_0000_0000_0000 (b % 0x8000_0000_0000_0000) (omega arith), inf-fault b (omega arith) c.if-m-eq9218868437227405312.true)

pub returns-then-m-gt9218868437227405312 : goal.returns-then-m-gt9218868437227405312
unfolding float_as
returns-then-m-gt9218868437227405312 c = simp (ne_eqb _ _ c.if-b-eq9221120237041090560.false, lt-ltb _ _ c.if-m-gt9218868437227405312.true)

pub returns-in-Some : goal.returns-in-Some
unfolding float_as scalar_fault
returns-in-Some c =
    let b = c.args.b in
    let e = sym c.in-Some.ensures in
    let l = whole-low b _ e in
    simp (ne_eqb b 0x7FF8_0000_0000_0000 (λ z. omega arith), le-ltb _ _ l, whole-fault (of_bits binary64 b) _ e)

pub returns-else-m-gt9218868437227405312 : goal.returns-else-m-gt9218868437227405312
unfolding float_as scalar_fault
returns-else-m-gt9218868437227405312 c =
    let b = c.args.b in
    let e = sym c.in-None.ensures in
    simp (ne_eqb _ _ c.if-b-eq9221120237041090560.false, le-ltb _ _ c.if-m-gt9218868437227405312.false, other-fault b (omega arith) (omega arith) e)
