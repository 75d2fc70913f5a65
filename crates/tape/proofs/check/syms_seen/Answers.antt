-- `tape::check::syms_seen` meets its contract. The invariant: the symbols that are left, behind what was seen, give the same answer. Assumes nothing.
use mathlib.Core.Path.{◌≡◌, sym, ap, ◌∙◌}
use Prim.Native.Nat.{ℕ, ◌+◌, ◌-◌}
use mathlib.Core.Bool.{◌||◌}
use native.Mathlib.Omega.{arith}
use Rattle.tape.specs.Bytes.{part}
use Rattle.tape.specs.Tree.{encode_sym}
use Rattle.tape.specs.Tape.{sym_of, syms_of, sym_fault}
use Rattle.tape.specs.CheckSteps.{syms_front}
use Rattle.tape.proofs.Reading.{sym_sound}
use Rattle.tape.proofs.CodeFacts.{read_within, sym_read, front-end, front-stop, front-step}
use Rattle.tape.proofs.Parts.{trailed}
use Rattle.tape.proofs.check.syms_seen.Goals as goal

pub sym_size-size-requires : goal.sym_size-size-requires
sym_size-size-requires c = record { at_le_end = c.loop.invariant.within; end_in_bounds = c.requires.end_in_bounds }

pub returns-then-size-eq0 : goal.returns-then-size-eq0
returns-then-size-eq0 c =
    let a = c.args in
    let l = c.loop in
    front-stop a.tape.now l.p a.end l.numbered _ (omega arith) (sym c.if-size-eq0.true ∙ c.sym_size-size.ensures) ∙ l.invariant.front

pub is_number-numbered-requires : goal.is_number-numbered-requires
is_number-numbered-requires c =
    let a = c.args in
    let l = c.loop in
    let w = read_within sym_fault encode_sym a.tape.now l.p a.end (sym_of (part a.tape.now l.p a.end)) _ l.invariant.within (trailed c.requires.end_in_bounds) (sym_sound _) (sym_read _ _ c.sym_size-size.ensures c.if-size-eq0.false) in
    let z = c.if-size-eq0.false in
    record { at_lt_end = omega arith; end_in_bounds = trailed c.requires.end_in_bounds }

pub overflow_add-p : goal.overflow_add-p
overflow_add-p c =
    let a = c.args in
    let l = c.loop in
    let w = read_within sym_fault encode_sym a.tape.now l.p a.end (sym_of (part a.tape.now l.p a.end)) _ l.invariant.within (trailed c.requires.end_in_bounds) (sym_sound _) (sym_read _ _ c.sym_size-size.ensures c.if-size-eq0.false) in
    record { fits = omega arith }

pub loop-preserved : goal.loop-preserved
loop-preserved c =
    let a = c.args in
    let l = c.loop in
    let p : ℕ = l.p + c.sym_size-size.result in
    let d : a.n - (l.counter + 1) ≡ a.n - l.counter - 1 = omega arith in
    record {
      within = read_within sym_fault encode_sym a.tape.now l.p a.end (sym_of (part a.tape.now l.p a.end)) _ l.invariant.within (trailed c.requires.end_in_bounds) (sym_sound _) (sym_read _ _ c.sym_size-size.ensures c.if-size-eq0.false);
      front =
          ap (λ (i : ℕ). syms_front p (l.numbered || c.is_number-numbered.result) (syms_of i (part a.tape.now p a.end))) d
          ∙ rw c.is_number-numbered.ensures (sym (front-step a.tape.now l.p a.end l.numbered _ _ (omega arith) c.sym_size-size.ensures c.if-size-eq0.false) ∙ l.invariant.front);
    }

pub returns : goal.returns
returns c = let l = c.loop in front-end l.p l.numbered _ _ (omega arith) ∙ l.invariant.front
