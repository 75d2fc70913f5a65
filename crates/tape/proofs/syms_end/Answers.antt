-- `tape::syms_end` meets its contract: behind the symbols passed, as many as are left. Assumes nothing.
use mathlib.Core.Path.{sym, ap, ◌∙◌}
use Prim.Native.Nat.{ℕ}
use native.Mathlib.Omega.{arith}
use Rattle.tape.specs.Tape.{sym_of, syms_of}
use Rattle.tape.specs.Steps.{place_of}
use Rattle.tape.specs.Tree.{encode_sym}
use Rattle.tape.specs.Bytes.{part}
use Rattle.tape.proofs.Reading.{sym_sound}
use Rattle.tape.proofs.CodeReading.{syms_bad, syms_one, syms-done, place-within}
use Rattle.tape.proofs.syms_end.Goals as goal

pub returns-in_err-p : goal.returns-in_err-p
returns-in_err-p c =
    let a = c.args in
    let l = c.loop in
    c.from_residual.ensures ∙ sym (l.invariant.behind ∙ syms_bad a.tape.now l.p a.end _ (omega arith) (sym c.in_err-p.ensures))

pub loop-preserved : goal.loop-preserved
loop-preserved c =
    let a = c.args in
    let l = c.loop in
    let e = sym c.in_ok-p.ensures in
    record {
      within = (place-within encode_sym a.tape.now l.p a.end _ (sym_of (part a.tape.now l.p a.end)) l.invariant.within c.requires.end_in_bounds (sym_sound _) e).1;
      behind = l.invariant.behind ∙ syms_one a.tape.now l.p a.end _ _ (omega arith) e ∙ ap (λ (i : ℕ). place_of c.in_ok-p.p (syms_of i (part a.tape.now c.in_ok-p.p a.end))) (omega arith);
    }

pub returns : goal.returns
returns c = syms-done _ _ _ (omega arith) ∙ sym c.loop.invariant.behind
