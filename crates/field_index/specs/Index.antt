-- What an index answers, and what it leaves in the entries. Assumes nothing: these are definitions.
use Rattle.std.specs.Prelude.{ℕ, zero, suc, ◌+◌, ◌≡◌, List, [], ◌++◌, leb, length, drop, Result, Ok, Err}
use Rattle.std.proofs.Math.Option.{Option, none, some}
use Rattle.output.specs.Logic.{if, on}
use Rattle.tape.specs.Bytes.{first}
use Rattle.tape.specs.Tree.{Nodes, size}
use Rattle.tape.specs.Verdict.{verdict}
use Rattle.tape.specs.Answer.{Outcome, counted, refused}
use Rattle.field_index.specs.declared.Entry.{Entry}
use Rattle.field_index.specs.declared.Refusal.{Refusal}
use Rattle.field_index.specs.declared.Refusal.TheVariants.{Misfit, BadNode, TooDeep, FiniteFloat, NoStruct, TooManyFields}
use Rattle.field_index.specs.Names.{before}
use Rattle.field_index.specs.Sorted.{sorted}
use Rattle.field_index.specs.Structs.{struct_at, fields_from}

-- document 01's and 02's number for each refusal
abbrev pub number : Refusal → ℕ
number Misfit = 1
number BadNode = 2
number TooDeep = 3
number FiniteFloat = 4
number NoStruct = 11
number TooManyFields = 12

-- and for each answer
abbrev pub indexed : Result ℕ Refusal → Outcome
indexed (Ok n) = counted n
indexed (Err r) = refused (number r)

-- 11 where no struct node stands at the offset; 12 after that, exactly where its fields outnumber the m entries
abbrev pub struct_refusal : Option Nodes → ℕ → ℕ
struct_refusal none m = 11
struct_refusal (some ns) m = if (leb (size ns) m) 0 12

-- the tape's own 1 to 4 come first; 0 where there is an index
unfoldable pub refusal : List ℕ → ℕ → ℕ → ℕ
refusal t at m = first (verdict t) (struct_refusal (struct_at t at) m)

-- the fields of the struct node at an offset, in tape order
unfoldable pub fields_at : List ℕ → ℕ → List Entry
fields_at t at = on (struct_at t at) (fields_from (at + 5)) []

-- the index: the fields, sorted
unfoldable pub index_at : List ℕ → ℕ → List Entry
index_at t at = sorted (before t) (fields_at t at)

abbrev pub answered : ℕ → ℕ → Outcome
answered zero n = counted n
answered (suc f) n = refused (suc f)

abbrev pub left : ℕ → List Entry → List Entry → List Entry
left zero new old = new
left (suc f) new old = old

-- The answer is the number of fields, or the refusal. The first entries are the index, those behind it keep their values; a refusal leaves all
-- untouched.
pub record IndexOf (t : List ℕ) (at : ℕ) (l l' : List Entry) (r : Result ℕ Refusal) : Type 0 where
  pub answer : indexed r ≡ answered (refusal t at (length l)) (length (fields_at t at))
  pub entries : l' ≡ left (refusal t at (length l)) (index_at t at ++ drop (length (fields_at t at)) l) l
