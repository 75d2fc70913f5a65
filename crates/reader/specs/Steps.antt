-- What the contracts of the inner functions say. Assumes nothing: these are definitions.
use Rattle.std.specs.Prelude.{ℕ, suc, ◌+◌, ◌*◌, ◌-◌, ◌≤◌, ◌<◌, min, ◌≡◌, List, ◌++◌, Bool, false, eqb, Float, length, drop, Some, None}
use Rattle.std.specs.Prelude as std
use Rattle.std.proofs.Math.Option.{Option, none, some}
use Rattle.std.proofs.lemmas.List.Edits.{sets}
use Rattle.output.specs.Logic.{or}
use Rattle.output.specs.Wrote.{limit}
use Rattle.tokens.specs.Steps.{Kept}
use Rattle.tokens.specs.declared.quoted.Step.{Step}
use Rattle.numbers.specs.Numeral.{numeral}
use Rattle.floats.specs.Float.{float}
use Rattle.tape.specs.Tree.{Scalar, Head, Node, Nodes, encode_syms, encode_head, encode, encodes, size, tape}
use Rattle.tape.specs.declared.Frame.{Frame}
use Rattle.tape.specs.declared.Frame.TheVariants.{Top, List as ListF, Sexp, Struct}
use Rattle.reader.specs.Grammar.{skip, taken, note, notes, numeral_node, body, value, sequence, meaning}
use Rattle.reader.specs.declared.heads.Run.{Run}
use Rattle.reader.specs.declared.Made.{Made}

-- The bytes s were written at p: the buffer went from a to b and the position to r, which is counted up to the limit. A length that is
-- put in afterwards is the distance of two positions, so the bytes are said only where the limit was not reached: every tape that fits
-- into a buffer. Those before p are kept in any case.
pub record Laid (a b : List ℕ) (p r : ℕ) (s : List ℕ) : Type 0 where
  pub kept : Kept p a b
  pub count : r ≡ min (p + length s) limit
  pub bytes : p + length s < limit → b ≡ sets a p s

-- the blanks from a place up to r are passed
pub record Skipped (text : List ℕ) (from r : ℕ) : Type 0 where
  pub ahead : from ≤ r
  pub inside : r ≤ length text
  pub is : drop r text ≡ skip (drop from text)

-- a rule that gives the text behind something, at a place of the text
abbrev pub Reaches : List ℕ → ℕ → Option (List ℕ) → std.Option ℕ → Type 0
Reaches text from o (Some a) = (o ≡ some (drop a text)) × (from ≤ a) × (a ≤ length text)
Reaches text from o None = o ≡ none

-- A rule read something up to a place that is lo at least, and what it read is written from p on, as enc says. Where it reads nothing the
-- buffer is kept before p.
abbrev pub Read : {A : Type 0} → (A → List ℕ) → List ℕ → ℕ → List ℕ → List ℕ → ℕ → Option (A × List ℕ) → std.Option Step → Type 0
Read {A} enc text lo b b' p o (Some s) = (x : A) × (o ≡ some (x, drop s.at text)) × (lo ≤ s.at) × (s.at ≤ length text) × Laid b b' p s.pos (enc x)
Read enc text lo b b' p o None = (o ≡ none) × Kept p b b'

-- the same, where a rule that reads nothing leaves the buffer as it was
abbrev pub Tried : {A : Type 0} → (A → List ℕ) → List ℕ → ℕ → List ℕ → List ℕ → ℕ → Option (A × List ℕ) → std.Option Step → Type 0
Tried {A} enc text lo b b' p o (Some s) = (x : A) × (o ≡ some (x, drop s.at text)) × (lo ≤ s.at) × (s.at ≤ length text) × Laid b b' p s.pos (enc x)
Tried enc text lo b b' p o None = (o ≡ none) × (b' ≡ b)

-- the same as Read, with a number of parts, m of them counted before
abbrev pub Counted : {A : Type 0} → (A → List ℕ) → (A → ℕ) → List ℕ → ℕ → List ℕ → List ℕ → ℕ → ℕ → Option (A × List ℕ) → std.Option Run → Type 0
Counted {A} enc parts text lo b b' p m o (Some r) = (x : A) × (o ≡ some (x, drop r.at text)) × (r.count ≡ m + parts x) × (lo ≤ r.at) × (r.at ≤ length text) × Laid b b' p r.pos (enc x)
Counted enc parts text lo b b' p m o None = (o ≡ none) × Kept p b b'

-- no annotation stands at a place by any raw rule, if r is false
pub record MayNote (text : List ℕ) (at : ℕ) (r : Bool) : Type 0 where
  pub none_here : r ≡ false → (is_raw : ℕ → Bool) → note is_raw (drop at text) ≡ none

-- how many annotations there are at most
abbrev pub Few : ℕ → std.Option Run → Type 0
Few n (Some r) = r.count ≤ n
Few n None = Unit

-- how many annotations a head has
abbrev pub note_count : Head → ℕ
note_count h = length h.1

-- `free`, by the number of annotations
abbrev pub free_by : Frame → ℕ → Bool
free_by Top n = eqb n 0
free_by ListF n = false
free_by Sexp n = false
free_by Struct n = false

-- a child: its head and its node
abbrev pub encode_child : Head × Node → List ℕ
encode_child c = encode_head c.0 ++ encode c.1

-- nodes by what was read of them
abbrev pub string_node : List ℕ → Node
string_node s = Node.scalar (Scalar.string s)

abbrev pub clob_node : List ℕ → Node
clob_node s = Node.scalar (Scalar.clob s)

abbrev pub blob_node : List ℕ → Node
blob_node s = Node.scalar (Scalar.blob s)

abbrev pub null_node : ℕ → Node
null_node t = Node.scalar (Scalar.null t)

abbrev pub float_node : Float → Node
float_node x = Node.scalar (Scalar.float x)

-- `numbers` without timestamps
unfoldable pub untimed_number : List ℕ → Option (Node × List ℕ)
untimed_number t = or (taken float_node (float t)) (taken numeral_node (numeral t))

-- What is said of the rules that quoted text is part of, by what a raw character may be.
module _ (is_raw : ℕ → Bool) where
  -- what `marks_at` says of its result, where m annotations were read before and n more may come
  pub record MarksAt (text : List ℕ) (from n : ℕ) (b b' : List ℕ) (p m : ℕ) (r : std.Option Run) : Type 0 where
    pub told : Counted encode_syms length text from b b' p m (notes is_raw n (drop from text)) r
    pub few : Few (m + n) r

  -- what is said of a value behind its head, for every number f that is large enough for the text that is left
  pub record BodyAt (text : List ℕ) (from : ℕ) (m : Bool) (left : ℕ) (b b' : List ℕ) (p : ℕ) (r : std.Option Step) : Type 0 where
    pub told : (f : ℕ) → 2 * (length text - from) ≤ f → Read encode text (suc from) b b' p (body is_raw f m left (drop from text)) r

  -- what `value` says of its result
  pub record ValueAt (text : List ℕ) (from : ℕ) (k : Frame) (left : ℕ) (b b' : List ℕ) (p : ℕ) (r : std.Option Step) : Type 0 where
    pub told : (f : ℕ) → 2 * (length text - from) ≤ f → Read encode_child text (suc from) b b' p (value is_raw f k left (drop from text)) r

  -- what `sequence` says of its result
  pub record RunAt (text : List ℕ) (from : ℕ) (k : Frame) (left : ℕ) (b b' : List ℕ) (p m : ℕ) (r : std.Option Run) : Type 0 where
    pub told : (f : ℕ) → suc (2 * (length text - from)) ≤ f → Counted encodes size text from b b' p m (sequence is_raw f k left (drop from text)) r

  -- a whole text was read, its top-level nodes counted, and its tape written from the buffer's start
  abbrev pub ReadTape : List ℕ → List ℕ → List ℕ → std.Option Made → Type 0
  ReadTape text b b' (Some m) = (ns : Nodes) × (meaning is_raw text ≡ some ns) × (m.count ≡ size ns) × Laid b b' 0 m.length (tape ns)
  ReadTape text b b' None = (meaning is_raw text ≡ none) × (length b' ≡ length b)
