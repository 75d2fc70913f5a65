-- `line_reader::ends_in_lf` meets its contract. Assumes nothing.
use mathlib.Core.Path.{refl}
use Rattle.line_reader.specs.Book.{ends_in_lf}
use Rattle.line_reader.proofs.LineLaws.{ends-none}
use Rattle.line_reader.proofs.ends_in_lf.Goals as goal

pub returns-then-n-eq0 : goal.returns-then-n-eq0
returns-then-n-eq0 c = ends-none c.args.line.now c.if-n-eq0.true

pub returns : goal.returns
unfolding ends_in_lf
returns c = refl
