-- `tape::signed16` meets its contract: the inverted bits, inverted again. Assumes nothing.
use mathlib.Core.Path.{sym}
use native.Mathlib.Omega.{arith}
use mir.Syntax.{w16}
use Rattle.tape.proofs.Numbers.{signed_is}
use Rattle.tape.proofs.CodeReading.{signed_inverted}
use Rattle.tape.proofs.signed16.Goals as goal

pub returns-then-b-lt32768 : goal.returns-then-b-lt32768
returns-then-b-lt32768 c = sym (signed_is w16 c.args.b)

pub returns-else-b-lt32768 : goal.returns-else-b-lt32768
returns-else-b-lt32768 c = signed_inverted w16 65535 c.args.b (omega (arith, c.ranges.b.fits))
