-- `output::le_clipped` meets its contract. Assumes nothing.
use Prim.Native.Nat.{◌-◌}
use Rattle.output.specs.Wrote.{le_bytes}
use Rattle.output.proofs.Laws.{Progress}
use Rattle.output.proofs.le_clipped.Given as goal

abbrev pub invariant-loop : goal.invariant-loop
invariant-loop l = Progress l.initial.buf l.buf l.pos l.p (le_bytes l.width l.n) (le_bytes (l.width - l.counter) l.m)
