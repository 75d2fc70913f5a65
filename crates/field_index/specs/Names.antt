-- The order of the entries: by name, and of equal names the later place first. Assumes nothing: these are definitions.
use Rattle.std.specs.Prelude.{Bool, List, [], ℕ, drop}
use Rattle.std.specs.declared.cmp.Ordering.{Ordering}
use Rattle.std.specs.declared.cmp.Ordering.TheVariants.{Less, Greater}
use Rattle.std.specs.Ordering.{nat_cmp, ordering_then, is_lt}
use Rattle.std.specs.Cmp.Lexicographic.{slice_cmp}
use Rattle.text_rules.specs.Text.{Sym}
use Rattle.tape.specs.Tape.{reading, sym_of}
use Rattle.field_index.specs.declared.Entry.{Entry}

-- what stands past the end of a list of entries
abbrev pub no_entry : Entry
no_entry = record { name = 0; value = 0 }

-- identifiers come first by number, then texts by their bytes, a proper beginning first
abbrev pub compared_names : Sym → Sym → Ordering
compared_names (Sym.id m) (Sym.id n) = nat_cmp m n
compared_names (Sym.id m) (Sym.text t) = Less
compared_names (Sym.text s) (Sym.id n) = Greater
compared_names (Sym.text s) (Sym.text t) = slice_cmp nat_cmp s t

-- the name whose node starts at an offset of a tape; the empty text where no symbol node does
unfoldable pub name_at : List ℕ → ℕ → Sym
name_at t at = reading (sym_of (drop at t)) (Sym.text []) (λ s n. s)

-- the field that stands earlier is less. The values' offsets only make it an order of all entries: fields have different names' offsets
abbrev pub compared_places : Entry → Entry → Ordering
compared_places e f = ordering_then (nat_cmp e.name f.name) (nat_cmp e.value f.value)

-- by name; equal names stand latest first (02, A7)
abbrev pub compared : List ℕ → Entry → Entry → Ordering
compared t e f = ordering_then (compared_names (name_at t e.name) (name_at t f.name)) (compared_places f e)

-- e comes before f
unfoldable pub before : List ℕ → Entry → Entry → Bool
before t e f = is_lt (compared t e f)
