-- What the contracts of the parts of an index say: where a struct stands, and its fields one after the other.
-- Assumes nothing: these are definitions.
use Rattle.std.specs.Prelude.{ℕ, ◌+◌, ◌≤◌, ◌≡◌, List, length, Option, None, Some, Result, Ok, Err}
use Rattle.std.proofs.Math.Option.{none, some}
use Rattle.tape.specs.Bytes.{part}
use Rattle.tape.specs.Tree.{Nodes, size}
use Rattle.tape.specs.Tape.{head_of, walk}
use Rattle.tape.specs.Steps.{size_taken, size_at}
use Rattle.tape.specs.Fine.{Bytes}
use Rattle.tape.specs.declared.Frame.TheVariants.{Struct}
use Rattle.field_index.specs.declared.Entry.{Entry}
use Rattle.field_index.specs.declared.Refusal.{Refusal}
use Rattle.field_index.specs.declared.fields.Fields.{Fields}
use Rattle.field_index.specs.Structs.{struct_at, fields_from}
use Rattle.field_index.specs.Index.{number, refusal, fields_at}

-- the children in the body of a struct, from a place to a place; 65 bodies may be opened in a whole tape, and fewer are enough here
abbrev pub children_in : List ℕ → ℕ → ℕ → Nodes
children_in t from end = (walk 65 Struct (part t from end)).0

-- nothing is wrong with them
pub record Body (t : List ℕ) (from end : ℕ) : Type 0 where
  pub bytes : Bytes t
  pub ordered : from ≤ end
  pub inside : end ≤ length t
  pub fine : (walk 65 Struct (part t from end)).1 ≡ 0

-- the struct node at an offset ends at e
pub record EndsAt (t : List ℕ) (at e : ℕ) : Type 0 where
  pub found : struct_at t at ≡ some (children_in t (at + 5) e)
  pub body : Body t (at + 5) e

-- where it ends, if there is one
abbrev pub Located : List ℕ → ℕ → Option ℕ → Type 0
Located t at None = struct_at t at ≡ none
Located t at (Some e) = EndsAt t at e

-- where the value of a field stands, behind its name and its annotations
abbrev pub value_place : List ℕ → ℕ → ℕ → ℕ
value_place t at end = at + size_taken (head_of Struct (part t at end))

-- the field at a place: its name, a symbol, and what stands behind that; and where the next stands
abbrev pub entry_of : List ℕ → ℕ → ℕ → Entry
entry_of t at end = record { name = at; value = at + size_at (part t at end) }

abbrev pub next_of : List ℕ → ℕ → ℕ → ℕ
next_of t at end = value_place t at end + size_at (part t (value_place t at end) end)

-- A struct as it is opened, with room for its fields among m entries.
pub record Opened (t : List ℕ) (at m : ℕ) (f : Fields) : Type 0 where
  pub accepted : refusal t at m ≡ 0
  pub body : Body t f.from f.end
  pub count : size (children_in t f.from f.end) ≡ f.count
  pub room : f.count ≤ m
  pub fields : fields_from f.from (children_in t f.from f.end) ≡ fields_at t at

abbrev pub Opens : List ℕ → ℕ → ℕ → Result Fields Refusal → Type 0
Opens t at m (Ok f) = Opened t at m f
Opens t at m (Err r) = refusal t at m ≡ number r
