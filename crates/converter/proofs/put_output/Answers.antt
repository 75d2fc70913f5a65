-- `converter::put_output` meets its contract: where nothing is replaced the output is the text. Assumes nothing.
use native.Mathlib.Omega.{arith}
use Rattle.converter.proofs.Texts.{length-same}
use Rattle.converter.proofs.put_output.Goals as goal

pub returns-then-c-eq0 : goal.returns-then-c-eq0
returns-then-c-eq0 c = rw (length-same c.args.s.now (omega (arith, c.requires, c.if-c-eq0.true))) c.put_bytes.ensures
