-- `parts::notes_from` meets its contract. The invariant: the symbols that are left, behind what was seen, give the same answer and the same length.
-- Assumes nothing.
use mathlib.Core.Path.{◌≡◌}
use mathlib.Core.Bool.{false}
use Prim.Native.Nat.{◌*◌, ◌-◌, ◌≤◌}
use Rattle.tape.specs.Bytes.{part}
use Rattle.tape.specs.Tape.{syms_of}
use Rattle.tape.specs.CheckSteps.{syms_front}
use Rattle.measure.specs.Steps.{quoting}
use Rattle.measure.proofs.PartLaws.{noted_from}
use Rattle.measure.proofs.parts.notes_from.Given as goal

abbrev pub invariant-loop : goal.invariant-loop
invariant-loop l = record {
  within : l.p ≤ l.end;
  most : l.length ≤ 4200000 * l.counter;
  front : syms_front l.p l.numbered (syms_of (l.n - l.counter) (part l.tape l.p l.end)) ≡ syms_front l.at false (syms_of l.n (part l.tape l.at l.end));
  length : noted_from (quoting l.quotes) l.length (syms_of (l.n - l.counter) (part l.tape l.p l.end)) ≡ noted_from (quoting l.quotes) 0 (syms_of l.n (part l.tape l.at l.end));
}
