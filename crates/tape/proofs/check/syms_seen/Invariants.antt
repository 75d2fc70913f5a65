-- `tape::check::syms_seen` meets its contract. The invariant: the symbols that are left, behind what was seen, give the same answer. Assumes nothing.
use mathlib.Core.Path.{◌≡◌}
use Prim.Native.Nat.{◌≤◌, ◌-◌}
use Rattle.tape.specs.Bytes.{part}
use Rattle.tape.specs.Tape.{syms_of}
use Rattle.tape.specs.CheckSteps.{syms_front}
use Rattle.tape.proofs.check.syms_seen.Given as goal

abbrev pub invariant-loop : goal.invariant-loop
invariant-loop l = record {
  within : l.p ≤ l.end;
  front : syms_front l.p l.numbered (syms_of (l.n - l.counter) (part l.tape l.p l.end)) ≡ syms_front l.at l.already (syms_of l.n (part l.tape l.at l.end));
}
