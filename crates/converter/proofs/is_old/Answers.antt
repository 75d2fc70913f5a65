-- `converter::is_old` meets its contract. Assumes nothing.
use Rattle.std.proofs.Common.{◌≡◌, ℕ, List, [], ◌∷◌, Option, Some, None, ◌∙◌}
use Rattle.std.specs.Prelude.{is_some}
use Rattle.tokens.specs.Quoted.{old_raw, raw_rule}
use Rattle.reader.specs.Steps.{ReadTape}
use Rattle.reader.specs.declared.Made.{Made}
use Rattle.converter.specs.Outcome.{is_old}
use Rattle.converter.proofs.is_old.Goals as goal

told : (t b b' : List ℕ) (r : Option Made) → ReadTape old_raw t b b' r → is_some r ≡ is_old t
unfolding is_old
told t b b' (Some m) h = rw h.1
told t b b' None h = rw h.0

pub returns : goal.returns
unfolding raw_rule
returns c = c.is_some.ensures ∙ told c.args.text.now (0 ∷ []) c.write_tape.new.buf c.write_tape.result c.write_tape.ensures
