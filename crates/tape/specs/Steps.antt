-- What the contracts of the tape's functions say of their answers. Assumes nothing: these are definitions.
use Rattle.std.specs.Prelude.{ℕ, ◌+◌, List, [], true, length, take, drop, leb, Option as OptionC, Some, None}
use Rattle.std.proofs.Math.Option.{Option, none, some}
use Rattle.output.specs.Logic.{if}
use Rattle.text_rules.specs.Text.{Sym}
use Rattle.tape.specs.Tree.{Scalar, Head, Node, null, bool, int, float, decimal, timestamp, symbol, string, clob, blob, nest, marker}
use Rattle.tape.specs.Tape.{reading, length_of, head_of, Value, absent, leaf, body, value_of, walk}
use Rattle.tape.specs.declared.Frame.{Frame}
use Rattle.tape.specs.declared.Scalar.{Scalar as ScalarC}
use Rattle.tape.specs.declared.Scalar.TheVariants as C
use Rattle.tape.specs.declared.Symbol.{Symbol as SymbolC}
use Rattle.tape.specs.declared.Symbol.TheVariants as Y

-- where it ends, for what starts at a place
abbrev pub place_of : {A : Type 0} → ℕ → Option (A × ℕ) → OptionC ℕ
place_of at o = reading o None (λ a n. Some (at + n))

-- the length behind the kind byte, if that many bytes follow it
unfoldable pub length_in : List ℕ → OptionC ℕ
length_in l = if (leb (5 + length_of l) (length l)) (Some (length_of l)) None

-- the symbol that the code's answer means, whose node starts with the bytes l, and the number of its bytes
abbrev pub meant_sym : OptionC SymbolC → List ℕ → Option (Sym × ℕ)
meant_sym None l = none
meant_sym (Some (Y.Text n)) l = some (Sym.text (take n (drop 5 l)), 5 + n)
meant_sym (Some (Y.Id i)) l = some (Sym.id i, 5)

-- the scalar that the code's answer means, whose node starts with the bytes l
abbrev pub meant_scalar : ScalarC → List ℕ → Scalar
meant_scalar (C.Null t) l = null t
meant_scalar (C.«Bool» b) l = bool b
meant_scalar (C.Int n) l = int n
meant_scalar (C.«Float» x) l = float x
meant_scalar (C.Decimal neg m e) l = decimal neg m e
meant_scalar (C.Timestamp x) l = timestamp x
meant_scalar (C.Symbol n) l = symbol (Sym.text (take n (drop 5 l)))
meant_scalar (C.Id i) l = symbol (Sym.id i)
meant_scalar (C.«String» n) l = string (take n (drop 5 l))
meant_scalar (C.Clob n) l = clob (take n (drop 5 l))
meant_scalar (C.Blob n) l = blob (take n (drop 5 l))

-- how many bytes it takes
abbrev pub size_of : ScalarC → ℕ
size_of (C.Null t) = 2
size_of (C.«Bool» b) = 2
size_of (C.Int n) = 9
size_of (C.«Float» x) = 9
size_of (C.Decimal neg m e) = 14
size_of (C.Timestamp x) = 16
size_of (C.Symbol n) = 5 + n
size_of (C.Id i) = 5
size_of (C.«String» n) = 5 + n
size_of (C.Clob n) = 5 + n
size_of (C.Blob n) = 5 + n

abbrev pub scanned : OptionC ScalarC → List ℕ → Option (Scalar × ℕ)
scanned None l = none
scanned (Some s) l = some (meant_scalar s l, size_of s)

-- the head of the child at the start of a list, if it has one that is as it must be
abbrev pub head_at : Frame → List ℕ → Head
head_at k l = reading (head_of k l) (none, []) (λ h n. h)

-- how many bytes were read
abbrev pub size_taken : {A : Type 0} → Option (A × ℕ) → ℕ
size_taken o = reading o 0 (λ a n. n)

-- ---- the value that the bytes l start with, where a marker may stand too; d: how many bodies may be opened

abbrev pub node_is : ℕ → List ℕ → Value → Node
node_is d l absent = marker
node_is d l (leaf n m) = n
node_is d l (body k m) = nest k (walk d k (take m (drop 5 l))).0

abbrev pub size_is : Value → ℕ
size_is absent = 0
size_is (leaf n m) = m
size_is (body k m) = 5 + m

-- 2 where no value is whole, else what is wrong in a container
abbrev pub problem_is : ℕ → List ℕ → Value → ℕ
problem_is d l absent = 2
problem_is d l (leaf n m) = 0
problem_is d l (body k m) = (walk d k (take m (drop 5 l))).1

unfoldable pub node_at : ℕ → List ℕ → Node
node_at d l = node_is d l (value_of true l)

unfoldable pub size_at : List ℕ → ℕ
size_at l = size_is (value_of true l)

unfoldable pub problem_at : ℕ → List ℕ → ℕ
problem_at d l = problem_is d l (value_of true l)
