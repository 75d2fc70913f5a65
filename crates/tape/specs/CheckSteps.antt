-- What the contracts of the parts of validation say of their answers. Assumes nothing: these are definitions.
use Rattle.std.specs.Prelude.{ℕ, zero, suc, ◌+◌, ◌≡◌, List, Bool, true, false, ◌||◌, length, eqb, leb, Option as OptionC, Some, None, Result, IfOk}
use Rattle.std.proofs.Math.Option.{Option}
use Rattle.output.specs.Logic.{if}
use Rattle.text_rules.specs.Text.{Sym}
use Rattle.tape.specs.Tree.{Scalar}
use Rattle.tape.specs.Tape.{reading, length_of, sym_of, name_of, syms_fault, scalar_fault, Walked}
use Rattle.tape.specs.Refusal.{annotated, sym_numbered, syms_numbered, name_numbered}
use Rattle.tape.specs.Checked.{Counts}
use Rattle.tape.specs.declared.Frame.{Frame}
use Rattle.tape.specs.declared.Frame.TheVariants.{List as ListF, Sexp, Struct}
use Rattle.tape.specs.declared.check.Front.{Front}
use Rattle.tape.specs.declared.check.Checked.{Checked}
use Rattle.tape.specs.Answer.{fault_of}
use Rattle.tape.specs.declared.answer.Fault.{Fault}

-- a node without a body as one number, by its problem f: its n bytes; 1 where it is refused by 4, 0 where it is refused by 2. A node has two
-- bytes at least, and its problem is 2 or 4, so the numbers do not meet
abbrev pub coded : ℕ → ℕ → ℕ
coded zero n = n
coded (suc f) n = if (eqb f 3) 1 0

-- what a rule read, with its problem by f; 0 where there was nothing to read
abbrev pub code_of : {A : Type 0} → (A → ℕ) → Option (A × ℕ) → ℕ
code_of f o = reading o 0 (λ a n. coded (f a) n)

abbrev pub scalar_code : Option (Scalar × ℕ) → ℕ
scalar_code o = code_of scalar_fault o

-- the bytes of a node with a length, or 0 where they do not fit
unfoldable pub span_of : List ℕ → ℕ
span_of l = if (leb (5 + length_of l) (length l)) (5 + length_of l) 0

-- whether the symbol that l starts with is an identifier but 0
unfoldable pub number_in : List ℕ → Bool
number_in l = reading (sym_of l) false (λ s n. sym_numbered s)

-- whether the name of the child that l starts with is one
unfoldable pub name_number_in : Frame → List ℕ → Bool
name_number_in k l = reading (name_of k l) false (λ a n. name_numbered a)

-- what has the problem f ends at p; at the end e where it is refused
abbrev pub ends : ℕ → ℕ → ℕ → ℕ
ends zero p e = p
ends (suc f) p e = e

-- of what a rule read from a place on, with its problem by f
abbrev pub end_of : {A : Type 0} → (A → ℕ) → ℕ → ℕ → Option (A × ℕ) → ℕ
end_of f at e o = reading o e (λ a n. ends (f a) (at + n) e)

-- the frame of a container, by its kind byte 10, 11 or 12
unfoldable pub frame_of : ℕ → Frame
frame_of k = if (eqb k 10) ListF (if (eqb k 11) Sexp Struct)

-- annotations that end at p; m: there are annotations, b: there is an identifier but 0
abbrev pub whole : ℕ → Bool → Bool → OptionC Front
whole p m b = Some (record { end = p; noted = m; numbered = b })

-- the same with their problem f: refused where there is one
abbrev pub front_as : ℕ → ℕ → Bool → Bool → OptionC Front
front_as zero p m b = whole p m b
front_as (suc f) p m b = None

-- of what a rule read from a place on, with its problem by f
abbrev pub front_of : {A : Type 0} → (A → ℕ) → (A → Bool) → (A → Bool) → ℕ → Option (A × ℕ) → OptionC Front
front_of f m b at o = reading o None (λ a n. front_as (f a) (at + n) (m a) (b a))

-- of symbols that are annotations, behind an identifier but 0 if b
abbrev pub syms_front : ℕ → Bool → Option (List Sym × ℕ) → OptionC Front
syms_front at b o = front_of syms_fault (λ ss. true) (λ ss. b || syms_numbered ss) at o

-- of annotations, of which there may be none, behind others if m
abbrev pub notes_front : ℕ → Bool → Bool → Option (List Sym × ℕ) → OptionC Front
notes_front at m b o = front_of syms_fault (λ ss. m || annotated ss) (λ ss. b || syms_numbered ss) at o

-- the walk of a body
pub record Checks (w : Walked) (r : Result Checked Fault) : Type 0 where
  pub fault : fault_of r ≡ w.1
  pub counts : IfOk r (λ c. Counts w.0 c)
