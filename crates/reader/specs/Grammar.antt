-- The grammar, as the function that gives a text's meaning. A rule takes a text and gives what it read and the text behind it, or `none`.
-- `body` and `sequence` go f steps deep at most: for a text of n bytes every f above 2n gives the same (`sequence_enough`, in claims).
-- Assumes nothing: these are definitions.
use Rattle.std.specs.Prelude.{ℕ, zero, suc, ◌*◌, List, [], ◌∷◌, Bool, true, false, ◌||◌, ◌&&◌, length, drop, eqb}
use Rattle.std.proofs.Math.Option.{Option, none, some}
use Rattle.std.specs.Float.{nan}
use Rattle.output.specs.Logic.{if, then, on, or, byte, ascii}
use Rattle.text_rules.specs.Digits.{is_digit}
use Rattle.text_rules.specs.Texts.{starts, strip, blank}
use Rattle.text_rules.specs.Words.{word, behind_word, kind_of}
use Rattle.text_rules.specs.Text.{Sym}
use Rattle.tokens.specs.Quoted.{string, clob}
use Rattle.tokens.specs.Blob.{blob}
use Rattle.tokens.specs.Token.{symbol, null_behind}
use Rattle.text_rules.specs.declared.words.Kind.{Kind}
use Rattle.text_rules.specs.declared.words.Kind.TheVariants.{Null, True, False, Nan, Marker, Number, Text, Refused}
use Rattle.numbers.specs.Numeral.{Numeral, numeral}
use Rattle.numbers.specs.TimestampRead.{timestamp}
use Rattle.floats.specs.Float.{float}
use Rattle.tape.specs.Tree.{Scalar, Head, Node, Nodes}
use Rattle.tape.specs.declared.Frame.{Frame}
use Rattle.tape.specs.declared.Frame.TheVariants.{Top, List as ListF, Sexp, Struct}

-- what was read, taken as something else
abbrev pub taken : {A B : Type 0} → (A → B) → Option (A × List ℕ) → Option (B × List ℕ)
taken f o = then o (λ v. some (f v.0, v.1))

-- ---- between tokens

-- Blanks may stand before, between and after tokens: the text behind those that it starts with
unfoldable pub skip : List ℕ → List ℕ
skip [] = []
skip (c ∷ t) = if (blank c) (skip t) (c ∷ t)

-- `[` opens a list, `(` a sexp, `{` a struct
unfoldable pub opener : ℕ → Option Frame
opener c = if (eqb c (byte "[")) (some ListF) (if (eqb c (byte "(")) (some Sexp) (if (eqb c (byte "{")) (some Struct) none))

-- the text behind a sequence's end: the text's own end, `]`, `)` or `}`
unfoldable pub closes : Frame → List ℕ → Option (List ℕ)
closes Top [] = some []
closes Top (c ∷ t) = none
closes ListF t = strip (ascii "]") t
closes Sexp t = strip (ascii ")") t
closes Struct t = strip (ascii "}") t

-- Lists and structs have one comma between children and allow one after the last child: behind a child and blanks stands a comma, which is
-- passed, or the end e
unfoldable pub comma : ℕ → List ℕ → Option (List ℕ)
comma e t = if (starts (byte ",") t) (some (drop 1 t)) (if (starts e t) (some t) none)

-- the text at which a sequence goes on behind a child. Top-level values and markers, and values in a sexp, need at least one blank between
-- them: a blank or the end must stand there
unfoldable pub gap : Frame → List ℕ → Option (List ℕ)
gap Top [] = some []
gap Top (c ∷ t) = if (blank c) (some (c ∷ t)) none
gap ListF t = comma (byte "]") (skip t)
gap Sexp [] = none
gap Sexp (c ∷ t) = if (blank c || eqb c (byte ")")) (some (c ∷ t)) none
gap Struct t = comma (byte "}") (skip t)

-- ---- values without quoted text

-- `$ion_1_0` bare is the marker, at top level, unannotated
unfoldable pub free : Frame → List Sym → Bool
free Top [] = true
free Top (s ∷ ss) = false
free ListF ss = false
free Sexp ss = false
free Struct ss = false

-- what a bare word is as a value; m: a marker may stand here
abbrev pub by_kind : Bool → Kind → List ℕ → Option (Node × List ℕ)
by_kind m Null t = taken (λ k. Node.scalar (Scalar.null k)) (null_behind (behind_word t))
by_kind m True t = some (Node.scalar (Scalar.bool true), behind_word t)
by_kind m False t = some (Node.scalar (Scalar.bool false), behind_word t)
by_kind m Nan t = some (Node.scalar (Scalar.float nan), behind_word t)
by_kind m Marker t = if m (some (Node.marker, behind_word t)) none
by_kind m (Number n) t = some (Node.scalar (Scalar.symbol (Sym.id n)), behind_word t)
by_kind m Text t = some (Node.scalar (Scalar.symbol (Sym.text (word t))), behind_word t)
by_kind m Refused t = none

unfoldable pub words : Bool → List ℕ → Option (Node × List ℕ)
words m t = by_kind m (kind_of (word t)) t

abbrev pub numeral_node : Numeral → Node
numeral_node (Numeral.int n) = Node.scalar (Scalar.int n)
numeral_node (Numeral.decimal neg m e) = Node.scalar (Scalar.decimal neg m e)

-- a float as printed, a timestamp, an int or a decimal
unfoldable pub numbers : List ℕ → Option (Node × List ℕ)
numbers t =
    or (taken (λ x. Node.scalar (Scalar.float x)) (float t))
    (or (taken (λ x. Node.scalar (Scalar.timestamp x)) (timestamp t))
    (taken numeral_node (numeral t)))

-- a digit or a sign
unfoldable pub numeric : ℕ → Bool
numeric c = is_digit c || eqb c (byte "-") || eqb c (byte "+")

-- `{{` and a quote mark is a clob, any other `{{` a blob
unfoldable pub braces : List ℕ → Option (Node × List ℕ)
braces t =
    if (starts (byte "\"") (drop 2 t))
    (taken (λ s. Node.scalar (Scalar.clob s)) (clob t))
    (taken (λ s. Node.scalar (Scalar.blob s)) (blob t))

-- `{{` opens a clob or a blob, and no struct: a name does not start with `{`
unfoldable pub opens : List ℕ → Option Frame
opens [] = none
opens (c ∷ t) = if (eqb c (byte "{") && starts (byte "{") t) none (opener c)

-- At most 64 containers are open together: one more, if `left` more may be opened
abbrev pub within : {A : Type 0} → ℕ → (ℕ → Option A) → Option A
within zero g = none
within (suc left) g = g left

-- The rules that quoted text is part of, by what a raw character may be. By `strict_raw` they are the reader's grammar, by `old_raw` the old one (02, A6).
module _ (is_raw : ℕ → Bool) where
  -- ---- what stands before a value

  -- Annotations are symbols, each followed by `::`, with no blank beside it
  unfoldable pub note : List ℕ → Option (Sym × List ℕ)
  note t = then (symbol is_raw t) (λ s. then (strip (ascii "::") s.1) (λ r. some (s.0, r)))

  -- the annotations that a text starts with, if they are at most n
  unfoldable pub notes : ℕ → List ℕ → Option (List Sym × List ℕ)
  notes zero t = on (note t) (λ s. none) (some ([], t))
  notes (suc n) t = on (note t) (λ s. then (notes n s.1) (λ ss. some (s.0 ∷ ss.0, ss.1))) (some ([], t))

  -- A field is a name, `:` and a value. Names are symbols
  unfoldable pub field : List ℕ → Option (Sym × List ℕ)
  field t = then (symbol is_raw t) (λ s. then (strip (ascii ":") (skip s.1)) (λ r. some (s.0, skip r)))

  -- in a struct each value has a name, elsewhere none has
  unfoldable pub name : Frame → List ℕ → Option (Option Sym × List ℕ)
  name Top t = some (none, t)
  name ListF t = some (none, t)
  name Sexp t = some (none, t)
  name Struct t = taken some (field t)

  -- at most 16 annotations
  unfoldable pub head : Frame → List ℕ → Option (Head × List ℕ)
  head k t = then (name k t) (λ m. then (notes 16 m.1) (λ ss. some ((m.0, ss.0), ss.1)))

  -- ---- values

  -- a value that is no container, told by its first byte
  unfoldable pub scalar : Bool → List ℕ → Option (Node × List ℕ)
  scalar m [] = none
  scalar m (c ∷ t) =
      if (eqb c (byte "\"")) (taken (λ s. Node.scalar (Scalar.string s)) (string is_raw (c ∷ t)))
      (if (eqb c (byte "'")) (taken (λ s. Node.scalar (Scalar.symbol s)) (symbol is_raw (c ∷ t)))
      (if (eqb c (byte "{")) (braces (c ∷ t))
      (if (numeric c) (numbers (c ∷ t)) (words m (c ∷ t)))))

  -- a value with its head, by what reads the value
  abbrev pub headed : (Bool → List ℕ → Option (Node × List ℕ)) → Frame → List ℕ → Option ((Head × Node) × List ℕ)
  headed g k t = then (head k t) (λ h. then (g (free k h.0.1) h.1) (λ n. some ((h.0, n.0), n.1)))

  -- A value leads into a sequence and a sequence back into values.
  unfoldable mutual
    -- a value behind its head
    pub body : ℕ → Bool → ℕ → List ℕ → Option (Node × List ℕ)
    body zero m left t = none
    body (suc f) m left t =
        on (opens t)
        (λ k. within left (λ l. taken (Node.nest k) (sequence f k l (drop 1 t))))
        (scalar m t)

    -- children through the frame's end
    pub sequence : ℕ → Frame → ℕ → List ℕ → Option (Nodes × List ℕ)
    sequence zero k left t = none
    sequence (suc f) k left t =
        on (closes k (skip t))
        (λ r. some (Nodes.nil, r))
        (then (headed (λ m u. body f m left u) k (skip t)) (λ n.
        then (gap k n.1) (λ u.
        then (sequence f k left u) (λ ns. some (Nodes.more n.0.0 n.0.1 ns.0, ns.1)))))

  -- a value in the frame k
  unfoldable pub value : ℕ → Frame → ℕ → List ℕ → Option ((Head × Node) × List ℕ)
  value f k left t = headed (λ m u. body f m left u) k t

  -- what a whole text means: the number of steps is enough
  unfoldable pub meaning : List ℕ → Option Nodes
  meaning t = then (sequence (suc (2 * length t)) Top 64 t) (λ r. some r.0)
