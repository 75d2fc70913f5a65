-- What a lookup answers. Assumes nothing: these are definitions.
use Rattle.std.specs.Prelude.{ℕ, zero, suc, ◌+◌, ◌<◌, ◌≡◌, Bool, false, List, [], ◌∷◌, ◌++◌, length, get_or, Option, None, Some, Result, Ok, Err}
use Rattle.std.proofs.Math.Option as maybe
use Rattle.std.specs.declared.cmp.Ordering.{Ordering}
use Rattle.std.specs.Ordering.{is_eq}
use Rattle.output.specs.Logic.{if, on}
use Rattle.text_rules.specs.Text.{Sym}
use Rattle.field_index.specs.declared.Entry.{Entry}
use Rattle.tape.specs.Tree.{Nodes, nil, more, encode_name, encode_head, encode}
use Rattle.field_index.specs.declared.Refusal.{Refusal}
use Rattle.field_index.specs.Names.{no_entry, compared_names, name_at, before}
use Rattle.field_index.specs.Sorted.{Sorted}
use Rattle.field_index.specs.Structs.{struct_at}
use Rattle.field_index.specs.Index.{number, refusal}

-- an entry's name against the name looked for
unfoldable pub sought : List ℕ → Sym → Entry → Ordering
sought t name e = compared_names (name_at t e.name) name

-- an entry has the name
abbrev pub named : List ℕ → Sym → Entry → Bool
named t name e = is_eq (sought t name e)

-- one place further on
abbrev pub further : Option ℕ → Option ℕ
further None = None
further (Some k) = Some (suc k)

-- the place of the first element that passes a test
unfoldable pub first_with : {A : Type 0} → (A → Bool) → List A → Option ℕ
first_with q [] = None
first_with q (x ∷ l) = if (q x) (Some 0) (further (first_with q l))

-- a place of the slice, or none
abbrev pub Within : ℕ → Option ℕ → Type 0
Within n None = Unit
Within n (Some k) = k < n

-- Over any entries none, or a place of the slice. Over sorted entries, as every index is, the first with the name, or none exactly if none has it.
pub record Finds (t : List ℕ) (name : Sym) (l : List Entry) (r : Option ℕ) : Type 0 where
  pub within : Within (length l) r
  pub first : Sorted (before t) l → r ≡ first_with (named t name) l

-- ---- a lookup by a struct's offset: the field itself

-- a field has the name
abbrev pub is_named : Sym → maybe.Option Sym → Bool
is_named name maybe.none = false
is_named name (maybe.some s) = is_eq (compared_names s name)

-- the latest field with the name, in tape order; of fields that start at an offset: the latest of those behind the first, else the first if it has the name
unfoldable pub latest_field : Sym → ℕ → Nodes → maybe.Option Entry
latest_field name at nil = maybe.none
latest_field name at (more h n ns) =
    on (latest_field name (at + length (encode_head h ++ encode n)) ns) maybe.some (if (is_named name h.0) (maybe.some (record { name = at; value = at + length (encode_name h.0) })) maybe.none)

-- what was found in a list, as an answer
abbrev pub found_in : List Entry → Option ℕ → Result (Option Entry) ℕ
found_in l None = Ok None
found_in l (Some k) = Ok (Some (get_or l k no_entry))

-- and behind an index
abbrev pub looked_as : Result ℕ Refusal → Result (Option Entry) ℕ → Result (Option Entry) ℕ
looked_as (Ok n) o = o
looked_as (Err r) o = Err (number r)

-- a lookup's answer, by the refusal's number
abbrev pub looked : Result (Option Entry) Refusal → Result (Option Entry) ℕ
looked (Ok o) = Ok o
looked (Err r) = Err (number r)

abbrev pub looked_by : ℕ → maybe.Option Entry → Result (Option Entry) ℕ
looked_by zero maybe.none = Ok None
looked_by zero (maybe.some e) = Ok (Some e)
looked_by (suc f) o = Err (suc f)

-- the refusals of an index in 65,536 entries; else the latest field of the struct with the name, or none exactly if no field has it
unfoldable pub looked_up : List ℕ → ℕ → Sym → Result (Option Entry) ℕ
looked_up t at name = looked_by (refusal t at 65_536) (on (struct_at t at) (latest_field name (at + 5)) maybe.none)
