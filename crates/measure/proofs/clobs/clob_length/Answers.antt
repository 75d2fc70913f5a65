-- `clobs::clob_length` meets its contract. Assumes nothing.
use mathlib.Core.Path.{ap}
use native.Mathlib.Omega.{arith}
use lib.ListN.{length}
use Rattle.measure.proofs.EscapeLengths.{clob_body_most, clob_text_length}
use Rattle.measure.proofs.clobs.clob_length.Goals as goal

pub returns-then-not-any_clob_suspect : goal.returns-then-not-any_clob_suspect
returns-then-not-any_clob_suspect c = omega (arith, clob_text_length c.args.s.now, ap length (c.any_clob_suspect.ensures c.if-not-any_clob_suspect.true))

pub overflow_add-result : goal.overflow_add-result
overflow_add-result c = record { fits = omega (arith, clob_body_most c.args.s.now, c.clob_escapes.ensures, c.requires) }

pub returns : goal.returns
returns c = omega (arith, clob_text_length c.args.s.now, c.clob_escapes.ensures)
