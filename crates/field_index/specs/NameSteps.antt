-- A name as the code has it. Assumes nothing: these are definitions.
use Rattle.text_rules.specs.Text.{Sym}
use Rattle.field_index.specs.declared.names.Name.{Name}
use Rattle.field_index.specs.declared.names.Name.TheVariants.{Id, Text}

abbrev pub meant : Name → Sym
meant (Id n) = Sym.id n
meant (Text s) = Sym.text s.now
