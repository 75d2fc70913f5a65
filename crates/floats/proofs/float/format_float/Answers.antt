-- `floats::float::format_float` meets its contract: a NaN alone differs from itself, and what is no NaN goes by its bits. Assumes nothing.
use mathlib.Core.Path.{sym, subst}
use mathlib.Core.Bool.{not}
use lib.Dec.{T}
use lib.Ieee.{Float, is_nan}
use Rattle.output.specs.Wrote.{le_bytes}
use Rattle.floats.specs.Float.{float_text}
use Rattle.floats.proofs.FloatsBits.{self, other, bits_of_it}
use Rattle.floats.proofs.float.format_float.Goals as goal

pub returns-then-x : goal.returns-then-x
unfolding float_text le_bytes
returns-then-x c = simp (other c.args.x c.if-x.true) c.put_le.ensures

pub float_to_bits-x : goal.float_to_bits-x
float_to_bits-x c = self c.args.x c.if-x.false

pub put_bits-requires : goal.put_bits-requires
put_bits-requires c =
    (subst (λ (y : Float). T (not (is_nan y))) (sym (bits_of_it c.args.x c.well_formed.1.1.0.1)) (self c.args.x c.if-x.false))

pub returns : goal.returns
returns c = rw (bits_of_it c.args.x c.well_formed.1.1.0.1) at c.put_bits.ensures
