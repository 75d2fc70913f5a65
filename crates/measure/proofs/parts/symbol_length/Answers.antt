-- `parts::symbol_length` meets its contract: by its words, or byte by byte. Assumes nothing.
use native.Mathlib.Omega.{arith}
use Rattle.measure.proofs.parts.symbol_length.Goals as goal

pub returns-then-r-ne0 : goal.returns-then-r-ne0
returns-then-r-ne0 c = let k = c.if-r-ne0.true in c.words_length-r.ensures (omega arith)
