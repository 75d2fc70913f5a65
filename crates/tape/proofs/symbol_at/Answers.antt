-- `tape::symbol_at` meets its contract. Assumes nothing.
use Rattle.tape.specs.Tape.{symbol_of}
use Rattle.tape.proofs.symbol_at.Goals as goal

pub returns-in_err-n : goal.returns-in_err-n
unfolding symbol_of
returns-in_err-n c = rw (c.from_residual.ensures, ← c.in_err-n.ensures)

pub returns-in-Text : goal.returns-in-Text
unfolding symbol_of
returns-in-Text c = rw (← (rw c.in-Text.is at c.in_ok-n.ensures))

pub returns-in-Id : goal.returns-in-Id
unfolding symbol_of
returns-in-Id c = rw (← (rw c.in-Id.is at c.in_ok-n.ensures))
