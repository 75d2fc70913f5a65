-- `tape::signed32` meets its contract: the inverted bits, inverted again. Assumes nothing.
use mathlib.Core.Path.{sym}
use native.Mathlib.Omega.{arith}
use mir.Syntax.{w32}
use Rattle.tape.proofs.Numbers.{signed_is}
use Rattle.tape.proofs.CodeReading.{signed_inverted}
use Rattle.tape.proofs.signed32.Goals as goal

pub returns-then-b-lt2147483648 : goal.returns-then-b-lt2147483648
returns-then-b-lt2147483648 c = sym (signed_is w32 c.args.b)

pub returns-else-b-lt2147483648 : goal.returns-else-b-lt2147483648
returns-else-b-lt2147483648 c = signed_inverted w32 4294967295 c.args.b (omega (arith, c.ranges.b.fits))
