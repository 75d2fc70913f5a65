-- `nodes::bits_of_float` meets its contract: a NaN alone differs from itself. Assumes nothing.
use mathlib.Core.Path.{sym, ap, ◌∙◌}
use Rattle.floats.proofs.FloatsBits.{self, other, not-nan}
use Rattle.tape.specs.Tree.{float_bits}
use Rattle.tape.proofs.Numbers.{float-bits-nan}
use Rattle.reader.proofs.nodes.bits_of_float.Goals as goal

pub returns-then-x : goal.returns-then-x
returns-then-x c = sym (ap float_bits (other c.args.x c.if-x.true) ∙ float-bits-nan)

pub float_to_bits-result : goal.float_to_bits-result
float_to_bits-result c = self c.args.x c.if-x.false

pub returns : goal.returns
unfolding float_bits
returns c = simp (not-nan _ (self c.args.x c.if-x.false))
