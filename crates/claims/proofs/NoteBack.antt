-- What stands before a written value is read back: its name in a struct, and its annotations. Assumes nothing.
use Prim.Native.Nat.{ℕ, zero, suc, ◌≤◌}
use mathlib.Core.Path.{◌≡◌, refl, ap, ◌∙◌}
use mathlib.Core.List.{List, [], ◌∷◌, ◌++◌, append_assoc}
use mathlib.Core.Bool.{Bool, true, false}
use mathlib.Core.Option.{Option, none, some}
use native.Mathlib.Omega.{arith}
use lib.Dec.{eqb}
use lib.ListN.{length}
use Rattle.output.specs.Logic.{then, byte, ascii}
use Rattle.text_rules.specs.Digits.{is_digit}
use Rattle.text_rules.specs.Texts.{strip, ended, delimiter, blank}
use Rattle.text_rules.specs.Words.{is_start}
use Rattle.text_rules.specs.Text.{Sym}
use Rattle.tokens.specs.Quoted.{raw_rule}
use Rattle.tokens.specs.Token.{symbol}
use Rattle.tape.specs.Tree.{Scalar, Head, Node, scalar, nest, marker}
use Rattle.tape.specs.Fine.{FineSym, FineSyms, FineScalar, FineName, FineHead, Inner, Fine}
use Rattle.tape.specs.declared.Frame.{Frame}
use Rattle.tape.specs.declared.Frame.TheVariants.{Top, List as ListF, Sexp, Struct}
use Rattle.reader.specs.Grammar.{skip, note, notes, field, name, head, numeric}
use Rattle.writer.specs.Text.{sym_text, scalar_text, name_text, notes_text, opening, text}
use Rattle.tokens.proofs.SymbolBack.{Begins, symbol_back, symbol_id_back, symbol_begins, id_begins}
use Rattle.claims.proofs.FirstBytes.{First, starts_symbol, first_more, first-is, first_as, leads, start-leads, symbol-leads, no_blank}
use Rattle.claims.proofs.ScalarBack.{no_symbol, marker_first, marker_symbol, scalar-told}

-- ---- what a written head starts with

begins_first : {t : List ℕ} → Begins t → First starts_symbol t
unfolding starts_symbol
begins_first b = record { byte₀ = b.first; rest = b.rest; is = b.is; tells = b.tells }

module _ (quoted : Bool) where
  -- a written symbol starts with a quote mark or as an identifier does
  pub sym-first : (s : Sym) → First starts_symbol (sym_text quoted s)
  unfolding sym_text
  sym-first (Sym.text s) = begins_first (symbol_begins quoted s)
  sym-first (Sym.id n) = begins_first (id_begins n)

  pub name-first : (k : Frame) (x : Option Sym) (u : List ℕ) → FineName k x → First leads u → First leads (name_text quoted x ++ u)
  unfolding name_text
  name-first k none u h f = f
  name-first k (some s) u h f = first-is (append_assoc (sym_text quoted s) (ascii ": ") u) (first_more (ascii ": " ++ u) (first_as symbol-leads (sym-first s)))

  notes-text : (s : Sym) (ss : List Sym) (u : List ℕ) → notes_text quoted (s ∷ ss) ++ u ≡ sym_text quoted s ++ (ascii "::" ++ (notes_text quoted ss ++ u))
  unfolding notes_text
  notes-text s ss u = simp append_assoc

  notes-first : (ss : List Sym) (u : List ℕ) → First leads u → First leads (notes_text quoted ss ++ u)
  notes-first [] u f = unfold notes_text in f
  notes-first (s ∷ ss) u f = first-is (notes-text s ss u) (first_more (ascii "::" ++ (notes_text quoted ss ++ u)) (first_as symbol-leads (sym-first s)))

  pub head_first : (k : Frame) (h : Head) (u : List ℕ) → FineHead k h → First leads u → First leads (name_text quoted h.0 ++ (notes_text quoted h.1 ++ u))
  head_first k h u f l = name-first k h.0 (notes_text quoted h.1 ++ u) f.name (notes-first h.1 u l)

-- what stands behind a value: it ends a token, and is no `::`
pub record Delimits (r : List ℕ) : Type 0 where
  pub ends : ended r ≡ true
  pub no_colons : strip (ascii "::") r ≡ none

-- By either raw rule.
module _ (old : Bool) where
  -- ---- where no annotation stands

  note-other : (t : List ℕ) → symbol (raw_rule old) t ≡ none → note (raw_rule old) t ≡ none
  unfolding note
  note-other t h = rw h

  note_alone : (t u : List ℕ) (s : Sym) → symbol (raw_rule old) t ≡ some (s, u) → strip (ascii "::") u ≡ none → note (raw_rule old) t ≡ none
  unfolding note
  note_alone t u s h e = rw (h, e)

  pub notes-end : (n : ℕ) (t : List ℕ) → note (raw_rule old) t ≡ none → notes (raw_rule old) n t ≡ some ([], t)
  unfolding notes
  notes-end zero t h = rw h
  notes-end (suc n) t h = rw h

  note-symbol : (t r : List ℕ) (x : Option Sym) → symbol (raw_rule old) t ≡ then x (λ y. some (y, r)) → strip (ascii "::") r ≡ none → note (raw_rule old) t ≡ none
  note-symbol t r none h e = note-other t h
  note-symbol t r (some s) h e = note_alone t r s h e

  -- a written value starts so, and with no annotation
  pub record Leads (t : List ℕ) : Type 0 where
    pub begins : First leads t
    pub no_note : note (raw_rule old) t ≡ none

  pub marker_leads : (r : List ℕ) → Delimits r → Leads (ascii "$ion_1_0" ++ r)
  marker_leads r d = record { begins = first_more r (first_as start-leads marker_first); no_note = note-other (ascii "$ion_1_0" ++ r) (marker_symbol old r d.ends) }

  bracket_leads : (c : ℕ) (t : List ℕ) → leads c ≡ true → is_start c ≡ false → eqb c (byte "'") ≡ false → Leads (c ∷ t)
  bracket_leads c t h i q = record { begins = record { byte₀ = c; rest = t; is = refl; tells = h }; no_note = note-other (c ∷ t) (no_symbol old c t i q) }

  pub opening-leads : (k : Frame) (t : List ℕ) → Inner k → Leads (opening k ++ t)
  unfolding opening leads numeric is_digit is_start
  opening-leads Top t h = absurd h
  opening-leads ListF t h = bracket_leads (byte "[") t refl refl refl
  opening-leads Sexp t h = bracket_leads (byte "(") t refl refl refl
  opening-leads Struct t h = bracket_leads (byte "{") t refl refl refl

  -- ---- names and annotations, by what a symbol is read as

  field_here : (t u v : List ℕ) (s : Sym) → symbol (raw_rule old) t ≡ some (s, byte ":" ∷ byte " " ∷ u) → skip u ≡ v → field (raw_rule old) t ≡ some (s, v)
  unfolding field skip blank strip
  field_here t u v s h e = rw (h, e)

  notes_more : (m : ℕ) (s : Sym) (ss : List Sym) (t u v : List ℕ) → note (raw_rule old) t ≡ some (s, u) → notes (raw_rule old) m u ≡ some (ss, v) → notes (raw_rule old) (suc m) t ≡ some (s ∷ ss, v)
  unfolding notes
  notes_more m s ss t u v h e = rw (h, e)

-- What is written, under either setting of the writer and by either raw rule.
module _ (quoted old : Bool) where
  -- ---- names

  pub sym_back : (s : Sym) (r : List ℕ) → FineSym s → ended r ≡ true → symbol (raw_rule old) (sym_text quoted s ++ r) ≡ some (s, r)
  unfolding sym_text
  sym_back (Sym.text s) r h e = symbol_back quoted old s r h.utf8 e
  sym_back (Sym.id n) r h e = symbol_id_back (raw_rule old) n r h e

  -- a name, written and read, before a value
  pub name_back : (k : Frame) (x : Option Sym) (u : List ℕ) → FineName k x → First leads u → name (raw_rule old) k (name_text quoted x ++ u) ≡ some (x, u)
  unfolding name name_text
  name_back Top none u h e = refl
  name_back Top (some s) u h e = absurd h
  name_back ListF none u h e = refl
  name_back ListF (some s) u h e = absurd h
  name_back Sexp none u h e = refl
  name_back Sexp (some s) u h e = absurd h
  name_back Struct none u h e = absurd h
  name_back Struct (some s) u h e =
      rw (append_assoc (sym_text quoted s) (ascii ": ") u, field_here old (sym_text quoted s ++ (byte ":" ∷ byte " " ∷ u)) u u s (sym_back s (byte ":" ∷ byte " " ∷ u) h (unfold ended delimiter blank in refl)) (no_blank u e))

  -- ---- values

  pub scalar-leads : (s : Scalar) (r : List ℕ) → FineScalar s → Delimits r → Leads old (scalar_text quoted s ++ r)
  scalar-leads s r h d =
      let t = scalar-told quoted old true s r h d.ends in
      record { begins = t.begins; no_note = note-symbol old (scalar_text quoted s ++ r) r t.as_symbol t.symbol-is d.no_colons }

  pub node-leads : (n : Node) (y w d : ℕ) (k : Frame) (ss : List Sym) (r : List ℕ) → Fine d k ss n → Delimits r → Leads old (text quoted y w n ++ r)
  unfolding text Fine
  node-leads (scalar s) y w d k ss r h e = scalar-leads s r h e
  node-leads (nest f ns) y w zero k ss r h e = absurd h
  node-leads (nest f ns) y w (suc d) k ss r h e = simp append_assoc (opening-leads old f _ h.0)
  node-leads marker y w d k ss r h e = marker_leads old r e

  -- ---- annotations

  -- a symbol with `::` behind it, quoted or not, is an annotation
  note_back : (s : Sym) (u : List ℕ) → FineSym s → note (raw_rule old) (sym_text quoted s ++ (ascii "::" ++ u)) ≡ some (s, u)
  unfolding note strip
  note_back s u h = rw (sym_back s (byte ":" ∷ byte ":" ∷ u) h (unfold ended delimiter blank in refl))

  notes_back : (m : ℕ) (ss : List Sym) (u : List ℕ) → FineSyms ss → length ss ≤ m → note (raw_rule old) u ≡ none → notes (raw_rule old) m (notes_text quoted ss ++ u) ≡ some (ss, u)
  notes_back m [] u h l e = unfold notes_text in notes-end old m u e
  notes_back zero (s ∷ ss) u h l e = absurd (omega arith)
  notes_back (suc m) (s ∷ ss) u h l e =
      ap (notes (raw_rule old) (suc m)) (notes-text quoted s ss u)
      ∙ notes_more old m s ss (sym_text quoted s ++ (ascii "::" ++ (notes_text quoted ss ++ u))) (notes_text quoted ss ++ u) u (note_back s (notes_text quoted ss ++ u) h.0) (notes_back m ss u h.1 (omega arith) e)

  -- ---- a head: name and annotations

  pub head_back : (k : Frame) (h : Head) (u : List ℕ) → FineHead k h → Leads old u → head (raw_rule old) k (name_text quoted h.0 ++ (notes_text quoted h.1 ++ u)) ≡ some (h, u)
  unfolding head
  head_back k h u f l =
      rw (name_back k h.0 (notes_text quoted h.1 ++ u) f.name (notes-first quoted h.1 u l.begins), notes_back 16 h.1 u f.notes f.few l.no_note)
