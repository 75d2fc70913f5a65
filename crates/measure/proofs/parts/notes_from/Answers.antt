-- `parts::notes_from` meets its contract. The invariant: the symbols that are left, behind what was seen, give the same answer and the same length.
-- Assumes nothing.
use mathlib.Core.Path.{◌≡◌, sym, ◌∙◌}
use Prim.Native.Nat.{ℕ, ◌+◌, ◌-◌, ◌<◌}
use mathlib.Core.Bool.{◌||◌}
use native.Mathlib.Omega.{arith}
use Rattle.tape.specs.Bytes.{part}
use Rattle.tape.specs.Tape.{syms_of}
use Rattle.tape.specs.CheckSteps.{number_in}
use Rattle.tape.proofs.CodeFacts.{front-end, front-stop, front-step}
use Rattle.tape.proofs.Parts.{trailed}
use Rattle.measure.specs.Steps.{quoting}
use Rattle.measure.proofs.PartLaws.{sym-room, sym-length_most, flag_set, flag_left, noted-all, noted-end, noted_step}
use Rattle.measure.proofs.parts.notes_from.Goals as goal
use Rattle.measure.proofs.parts.notes_from.Goals.{then-is_number, else-is_number}

pub sym_size-size-requires : goal.sym_size-size-requires
sym_size-size-requires c = record { at_le_end = c.loop.invariant.within; end_in_bounds = c.requires.end_in_bounds }

pub returns-then-size-eq0 : goal.returns-then-size-eq0
returns-then-size-eq0 c =
    let a = c.args in
    let l = c.loop in
    record { front = front-stop a.tape.now l.p a.end l.numbered _ (omega arith) (sym c.if-size-eq0.true ∙ c.sym_size-size.ensures) ∙ l.invariant.front; length = tt }

pub sym_length-requires : goal.sym_length-requires
sym_length-requires c =
    let z = c.if-size-eq0.false in
    record { at_le_end = c.loop.invariant.within; end_in_bounds = c.requires.end_in_bounds; tape_len_bound = c.requires.tape_len_bound; size_value = (c.sym_size-size.ensures, omega arith); quotes_value = c.requires.quotes_value }

pub overflow_add-length : goal.overflow_add-length
overflow_add-length c = let y = c.if-size-eq0.false in
    let h = c.requires.end_in_bounds in
    let g = c.requires.tape_len_bound in
    let m = sym-length_most c.args.tape.now c.loop.p c.args.end c.loop.invariant.within (trailed c.requires.end_in_bounds) _ c.sym_size-size.ensures (omega arith) (quoting c.args.quotes) (omega arith) in let r = c.sym_length.ensures in record { fits = omega arith }

pub overflow_add-length-in-loop : goal.overflow_add-length-in-loop
overflow_add-length-in-loop c =
    let y = c.if-size-eq0.false in
    let h = c.requires.end_in_bounds in
    let g = c.requires.tape_len_bound in
    let m = sym-length_most c.args.tape.now c.loop.p c.args.end c.loop.invariant.within (trailed c.requires.end_in_bounds) _ c.sym_size-size.ensures (omega arith) (quoting c.args.quotes) (omega arith) in
    let r = c.sym_length.ensures in
    let l = c.loop in
    let i = l.invariant.most in
    record { fits = omega arith }

pub is_number-requires : goal.is_number-requires
is_number-requires c =
    let y = c.if-size-eq0.false in
    let h = c.requires.end_in_bounds in
    let g = c.requires.tape_len_bound in
    let w = sym-room c.args.tape.now c.loop.p c.args.end c.loop.invariant.within (trailed c.requires.end_in_bounds) _ c.sym_size-size.ensures (omega arith) in
    let z = c.if-size-eq0.false in
    record { at_lt_end = omega arith; end_in_bounds = trailed c.requires.end_in_bounds }

pub overflow_add-p : goal.overflow_add-p
overflow_add-p c =
    let y = c.if-size-eq0.false in
    let h = c.requires.end_in_bounds in
    let g = c.requires.tape_len_bound in
    let w = sym-room c.args.tape.now c.loop.p c.args.end c.loop.invariant.within (trailed c.requires.end_in_bounds) _ c.sym_size-size.ensures (omega arith) in
    let h = c.requires.end_in_bounds in
    let g = c.requires.tape_len_bound in
    record { fits = omega arith }

pub loop-preserved : goal.loop-preserved
loop-preserved c =
    let a = c.args in
    let l = c.loop in
    let z = c.sym_size-size.ensures in
    let y = c.if-size-eq0.false in
    let r = c.sym_length.ensures in
    let h = c.requires.end_in_bounds in
    let g = c.requires.tape_len_bound in
    let w = sym-room a.tape.now l.p a.end l.invariant.within (trailed h) _ z (omega arith) in
    let m = sym-length_most a.tape.now l.p a.end l.invariant.within (trailed h) _ z (omega arith) (quoting a.quotes) (omega arith) in
    let i = l.invariant.most in
    let p : ℕ = l.p + c.sym_size-size.result in
    -- one symbol less is left
    let d : a.n - (l.counter + 1) ≡ a.n - l.counter - 1 = omega arith in
    let t : 0 < a.n - l.counter = omega arith in
    let b = l.numbered in
    let k = c.is_number.ensures in
    -- whether there was an identifier but 0 yet
    let n : c.if-is_number.numbered ≡ b || number_in (part a.tape.now l.p a.end) =
    elim c.if-is_number.branch [
      | then-is_number v ↦ flag_set b _ _ (sym k ∙ v.if-is_number.true) v.numbered-is
      | else-is_number v ↦ flag_left b _ _ (sym k ∙ v.if-is_number.false) v.numbered-is
    ] in
    record {
      within = w;
      most = omega arith;
      front = rw (n, d) (sym (front-step a.tape.now l.p a.end b _ _ t z y) ∙ l.invariant.front);
      length = rw (r, d) (sym (noted_step (quoting a.quotes) a.tape.now l.p a.end l.invariant.within (trailed h) _ z (omega arith) l.length _ t) ∙ l.invariant.length);
    }

pub returns : goal.returns
returns c =
    let a = c.args in
    let l = c.loop in
    let e = front-end l.p l.numbered _ (part a.tape.now l.p a.end) (omega arith) in
    let d = noted-end (quoting a.quotes) l.length _ (part a.tape.now l.p a.end) (omega arith) in
    record { front = e ∙ l.invariant.front; length = sym d ∙ l.invariant.length ∙ noted-all (quoting a.quotes) (syms_of a.n (part a.tape.now a.at a.end)) }
