-- `value_writer::encode_field_name` meets its contract. Assumes nothing.
use mathlib.Core.Logic.{inl, inr}
use native.Mathlib.Omega.{arith}
use Rattle.output.proofs.Laws.{wrote_none}
use Rattle.tape.specs.Tape.{name_of}
use Rattle.writer.specs.Text.{name_text}
use borrow.Author.Rules.{rules}
use Rattle.writer.proofs.value_writer.encode_field_name.Goals as goal

pub write_name-requires : goal.write_name-requires
write_name-requires c =
    record { at_le_end = c.requires.at_le_end; end_in_bounds = c.requires.end_in_bounds; end_value = rw c.in-Struct.is at c.requires.end_value }

pub returns-in-Struct : goal.returns-in-Struct
returns-in-Struct c = rw c.in-Struct.is c.write_name.ensures

pub returns-in-Top : goal.returns-in-Top
unfolding name_of name_text
returns-in-Top c =
    elim c.in-Top.is [
      | inl e ↦ rw e (record { text = wrote_none _ _ c.requires.pos_le_limit (search rules); place = omega arith })
      | inr g ↦ elim g [
        | inl e ↦ rw e (record { text = wrote_none _ _ c.requires.pos_le_limit (search rules); place = omega arith })
        | inr e ↦ rw e (record { text = wrote_none _ _ c.requires.pos_le_limit (search rules); place = omega arith })
      ]
    ]
