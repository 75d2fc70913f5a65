-- `tape::check::float_size` meets its contract. Assumes nothing.
use mathlib.Core.Path.{sym, ap, ◌∙◌}
use native.Mathlib.Omega.{arith}
use Prim.Native.Nat.{ℕ}
use Rattle.tape.specs.Bytes.{part}
use Rattle.tape.specs.Tape.{float_as}
use Rattle.tape.specs.CheckSteps.{scalar_code}
use Rattle.tape.proofs.Parts.{part_length, part-number}
use Rattle.tape.proofs.CodeReading.{float_short, float-some}
use Rattle.tape.proofs.check.float_size.Goals as goal

pub returns-then-end-at-lt9 : goal.returns-then-end-at-lt9
returns-then-end-at-lt9 c =
    let a = c.args in
    let l = part a.tape.now a.at a.end in
    let n = part_length a.tape.now a.at a.end c.requires.end_in_bounds in
    sym (ap scalar_code (float_short l (omega arith)))

pub returns : goal.returns
returns c =
    let a = c.args in
    let l = part a.tape.now a.at a.end in
    let n = part_length a.tape.now a.at a.end c.requires.end_in_bounds in
    let u = part-number a.tape.now a.at a.end 8 1 (omega arith) in
    c.bits_size.ensures ∙ ap (λ (b : ℕ). scalar_code (float_as b)) (c.u64_at.ensures ∙ sym u) ∙ sym (ap scalar_code (float-some l (omega arith)))
