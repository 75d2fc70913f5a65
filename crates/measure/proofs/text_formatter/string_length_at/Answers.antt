-- `text_formatter::string_length_at` meets its contract. Assumes nothing.
use native.Mathlib.Omega.{arith}
use lib.ListN.{take, drop, length-take}
use Rattle.output.specs.Logic.{byte}
use Rattle.text_rules.specs.Text.{string_text}
use Rattle.text_rules.proofs.EscapesLaws.{text_body_most}
use Rattle.measure.proofs.EscapeLengths.{marked-length}
use Rattle.measure.proofs.text_formatter.string_length_at.Goals as goal

pub overflow_add-result : goal.overflow_add-result
overflow_add-result c =
    let a = c.args in
    let t = take a.n (drop a.from a.s.now) in
    record { fits = omega (arith, text_body_most t, length-take a.n (drop a.from a.s.now), c.escaped_text_body_length.ensures, c.requires) }

pub returns : goal.returns
unfolding string_text
returns c =
    let a = c.args in
    omega (arith, marked-length (byte "\"") (take a.n (drop a.from a.s.now)), c.escaped_text_body_length.ensures)
