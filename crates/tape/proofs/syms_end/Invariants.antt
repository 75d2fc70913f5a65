-- `tape::syms_end` meets its contract: behind the symbols passed, as many as are left. Assumes nothing.
use mathlib.Core.Path.{◌≡◌}
use Prim.Native.Nat.{◌≤◌, ◌-◌}
use Rattle.tape.specs.Tape.{syms_of}
use Rattle.tape.specs.Steps.{place_of}
use Rattle.tape.specs.Bytes.{part}
use Rattle.tape.proofs.syms_end.Given as goal

abbrev pub invariant-loop : goal.invariant-loop
invariant-loop l = record {
  within : l.p ≤ l.end;
  behind : place_of l.at (syms_of l.n (part l.tape l.at l.end)) ≡ place_of l.p (syms_of (l.n - l.counter) (part l.tape l.p l.end));
}
