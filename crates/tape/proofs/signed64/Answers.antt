-- `tape::signed64` meets its contract: the inverted bits, inverted again. Assumes nothing.
use mathlib.Core.Path.{sym}
use native.Mathlib.Omega.{arith}
use mir.Syntax.{w64}
use Rattle.tape.proofs.Numbers.{signed_is}
use Rattle.tape.proofs.CodeReading.{signed_inverted}
use Rattle.tape.proofs.signed64.Goals as goal

pub returns-then-b-lt9223372036854775808 : goal.returns-then-b-lt9223372036854775808
returns-then-b-lt9223372036854775808 c = sym (signed_is w64 c.args.b)

pub returns-else-b-lt9223372036854775808 : goal.returns-else-b-lt9223372036854775808
returns-else-b-lt9223372036854775808 c = signed_inverted w64 18446744073709551615 c.args.b (omega (arith, c.ranges.b.fits))
