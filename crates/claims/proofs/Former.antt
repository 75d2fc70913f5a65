-- What A5 changed: a text free of the characters that it escapes is as it was, which is the Rust's, in every layout and as tree text; in a string or a symbol that has
-- them they are replaced, and nothing else; by 01's raw rule both spellings are read. The texts are those with A9's setting off. Assumes
-- nothing.
use Prim.Native.Nat.{ℕ, ◌≤◌, ◌<◌}
use mathlib.Core.Path.{◌≡◌, refl, sym, ap, ap₂, ◌∙◌}
use mathlib.Core.Bool.{Bool, true, false, not, ◌&&◌, ◌||◌}
use mathlib.Core.List.{List, [], ◌∷◌, ◌++◌, append_assoc}
use mathlib.Core.Option.{Option, none, some}
use native.Mathlib.Decide.{dec_le}
use native.Mathlib.Omega.{arith}
use borrow.Author.Tests.{le-leb, lt-leb, ne_eqb}
use Rattle.output.specs.Logic.{if, byte, ascii}
use Rattle.output.proofs.Bools.{never, both}
use Rattle.text_rules.specs.Texts.{starts, empty}
use Rattle.text_rules.specs.Utf8.{lead_of, char_of, is_scalar, utf8}
use Rattle.text_rules.specs.Digits.{is_digit}
use Rattle.text_rules.specs.Escapes.{letter_of, has_letter, hex_digit, hex_escape, has_hex, text_escape, text_body, hex_value, hex}
use Rattle.text_rules.specs.Words.{is_start, is_part, behind_word, is_keyword, resembles_symbol_id, resembles_version_marker, is_identifier}
use Rattle.text_rules.specs.WordSteps.{all_part}
use Rattle.text_rules.specs.Text.{Sym, marked, symbol_text, string_text}
use Rattle.text_rules.proofs.LaneTests.{identifier_part}
use Rattle.text_rules.proofs.Table.{same}
use Rattle.tokens.specs.Quoted.{scalar_escape, escape, old_raw, raw, character}
use Rattle.tape.specs.Tree.{Scalar, Node, Nodes, null, bool, int, float, decimal, timestamp, symbol, string, clob, blob, scalar, nest, marker, nil, more}
use Rattle.tape.specs.declared.Frame.{Frame}
use Rattle.tape.specs.declared.Frame.TheVariants.{Top}
use Rattle.writer.specs.Text.{sym_text, scalar_text, name_text, notes_text, opening, closing, separator, broken, deeper, blanks, text, texts, stream_text}
use Rattle.tree.specs.Text.{lead, element, elements, tree_text}
use Rattle.claims.specs.Former.{former_escape, former_body, former_marked, former_symbol, former_string, former_sym, former_scalar, former_name, former_notes, former_text, former_texts, former_stream, former_element, former_elements, former_tree, free_of_hex, amended_byte, amended}

-- ---- a byte

-- past hex 1F nothing has hex digits
high_none : (c : ℕ) → 0x20 ≤ c → has_hex c ≡ false
unfolding has_hex
high_none c h = rw (le-leb 1 c (omega arith), lt-leb c 6 (omega arith), le-leb 0x0E c (omega arith), lt-leb c 0x1F (omega arith))

-- what has hex digits now went raw
raw_table : (c : ℕ) → c < 0x20 → if (has_hex c) (former_escape c) (c ∷ []) ≡ c ∷ []
unfolding has_hex former_escape has_letter
raw_table = same (λ c. if (has_hex c) (former_escape c) (c ∷ [])) (λ c. c ∷ []) 0x20 refl

went_raw : (c : ℕ) → has_hex c ≡ true → former_escape c ≡ c ∷ []
went_raw c h = go (dec_le c 0x1F)
  where
    go : Dec (c ≤ 0x1F) → former_escape c ≡ c ∷ []
    go (yes l) = ap (λ (b : Bool). if b (former_escape c) (c ∷ [])) (sym h) ∙ raw_table c (omega arith)
    go (no l) = never (sym h ∙ high_none c (omega arith))

-- where the former text of a byte is free of them, the byte is none of them
free_byte : (c : ℕ) → free_of_hex (former_escape c) ≡ true → has_hex c ≡ false
unfolding free_of_hex
free_byte c f = go (has_hex c) refl
  where
    go : (b : Bool) → has_hex c ≡ b → b ≡ false
    go true h = never (sym (ap (λ (x : Bool). not x && true) (sym h) ∙ sym (ap free_of_hex (went_raw c h)) ∙ f))
    go false h = refl

escape-same : (c : ℕ) → has_hex c ≡ false → text_escape c ≡ former_escape c
unfolding text_escape former_escape
escape-same c h = rw h

-- ---- texts free of these characters

free-append : (s t : List ℕ) → free_of_hex (s ++ t) ≡ free_of_hex s && free_of_hex t
unfolding free_of_hex
free-append [] t = refl
free-append (c ∷ s) t = go (not (has_hex c)) (free-append s t)
  where
    go : (b : Bool) → free_of_hex (s ++ t) ≡ free_of_hex s && free_of_hex t → b && free_of_hex (s ++ t) ≡ (b && free_of_hex s) && free_of_hex t
    go true e = e
    go false e = refl

-- both parts of such a text are free of them
parts : (s t : List ℕ) → free_of_hex (s ++ t) ≡ true → (free_of_hex s ≡ true) × (free_of_hex t ≡ true)
parts s t f = both (free_of_hex s) (free_of_hex t) (sym (free-append s t) ∙ f)

joined : {a b c d : List ℕ} → a ≡ b → c ≡ d → a ++ c ≡ b ++ d
joined e f = ap₂ (λ (x y : List ℕ). x ++ y) e f

body_same : (s : List ℕ) → free_of_hex (former_body s) ≡ true → text_body s ≡ former_body s
unfolding text_body former_body
body_same [] f = refl
body_same (c ∷ s) f = let p = parts (former_escape c) (former_body s) f in joined (escape-same c (free_byte c p.0)) (body_same s p.1)

marked-same : (q : ℕ) (s : List ℕ) → free_of_hex (former_marked q s) ≡ true → marked q s ≡ former_marked q s
unfolding free_of_hex
marked-same q s f =
    let p = parts (former_body s) (q ∷ []) (both (not (has_hex q)) (free_of_hex (former_body s ++ (q ∷ []))) f).1 in
    ap (λ (t : List ℕ). q ∷ (t ++ (q ∷ []))) (body_same s p.0)

pub string-same : (s : List ℕ) → free_of_hex (former_string s) ≡ true → string_text s ≡ former_string s
unfolding string_text former_string
string-same s f = marked-same (byte "\"") s f

pub symbol-same : (s : List ℕ) → free_of_hex (former_symbol s) ≡ true → symbol_text false s ≡ former_symbol s
unfolding symbol_text former_symbol
symbol-same s f = go (is_keyword s || resembles_symbol_id s || resembles_version_marker s) (is_identifier s) f
  where
    go : (a b : Bool) → free_of_hex (if a (former_marked (byte "'") s) (if b s (former_marked (byte "'") s))) ≡ true → if a (marked (byte "'") s) (if b s (marked (byte "'") s)) ≡ if a (former_marked (byte "'") s) (if b s (former_marked (byte "'") s))
    go true b g = marked-same (byte "'") s g
    go false true g = refl
    go false false g = marked-same (byte "'") s g

sym-same : (s : Sym) → free_of_hex (former_sym s) ≡ true → sym_text false s ≡ former_sym s
unfolding sym_text former_sym
sym-same (Sym.text s) f = symbol-same s f
sym-same (Sym.id n) f = refl

scalar-same : (s : Scalar) → free_of_hex (former_scalar s) ≡ true → scalar_text false s ≡ former_scalar s
unfolding scalar_text former_scalar
scalar-same (null t) f = refl
scalar-same (bool b) f = refl
scalar-same (int n) f = refl
scalar-same (float x) f = refl
scalar-same (decimal neg m e) f = refl
scalar-same (timestamp x) f = refl
scalar-same (symbol s) f = sym-same s f
scalar-same (string s) f = string-same s f
scalar-same (clob s) f = refl
scalar-same (blob s) f = refl

name-same : (x : Option Sym) → free_of_hex (former_name x) ≡ true → name_text false x ≡ former_name x
unfolding name_text former_name
name-same none f = refl
name-same (some s) f = ap (λ (t : List ℕ). t ++ ascii ": ") (sym-same s (parts (former_sym s) (ascii ": ") f).0)

notes-same : (ss : List Sym) → free_of_hex (former_notes ss) ≡ true → notes_text false ss ≡ former_notes ss
unfolding notes_text former_notes
notes-same [] f = refl
notes-same (s ∷ ss) f =
    let p = parts (former_sym s ++ ascii "::") (former_notes ss) f in
    joined (ap (λ (t : List ℕ). t ++ ascii "::") (sym-same s (parts (former_sym s) (ascii "::") p.0).0)) (notes-same ss p.1)

mutual
  unfolding text texts former_text former_texts

  text_same : (y w : ℕ) (n : Node) → free_of_hex (former_text y w n) ≡ true → text false y w n ≡ former_text y w n
  text_same y w (scalar s) f = scalar-same s f
  text_same y w (nest k ns) f =
      let inner = former_texts y k (deeper y w) ns in
      let p = parts (opening k ++ broken y ++ inner ++ blanks w) (closing k) f in
      let q = parts (opening k ++ broken y ++ inner) (blanks w) p.0 in
      let r = parts (opening k ++ broken y) inner q.0 in
      ap (λ (t : List ℕ). opening k ++ broken y ++ t ++ blanks w ++ closing k) (texts_same y k (deeper y w) ns r.1)
  text_same y w marker f = refl

  texts_same : (y : ℕ) (k : Frame) (w : ℕ) (ns : Nodes) → free_of_hex (former_texts y k w ns) ≡ true → texts false y k w ns ≡ former_texts y k w ns
  texts_same y k w nil f = refl
  texts_same y k w (more h n ns) f =
      let p = parts (blanks w ++ former_name h.0 ++ former_text y w n ++ separator y k) (former_texts y k w ns) f in
      let q = parts (blanks w ++ former_name h.0 ++ former_text y w n) (separator y k) p.0 in
      let r = parts (blanks w ++ former_name h.0) (former_text y w n) q.0 in
      let m = parts (blanks w) (former_name h.0) r.0 in
      joined (ap₂ (λ (a b : List ℕ). blanks w ++ a ++ b ++ separator y k) (name-same h.0 m.1) (text_same y w n r.1)) (texts_same y k w ns p.1)

-- "Texts free of these characters remain equal to the Rust's": the streaming text in every layout
pub stream_same : (y : ℕ) (ns : Nodes) → free_of_hex (former_stream y ns) ≡ true → stream_text false y ns ≡ former_stream y ns
unfolding stream_text former_stream
stream_same y ns f = texts_same y Top 0 ns f

mutual
  unfolding element elements former_element former_elements

  element_same : (n : Node) → free_of_hex (former_element n) ≡ true → element false n ≡ former_element n
  element_same (scalar s) f = scalar-same s f
  element_same (nest k ns) f =
      let p = parts (opening k ++ former_elements false k ns) (closing k) f in
      let q = parts (opening k) (former_elements false k ns) p.0 in
      ap (λ (t : List ℕ). opening k ++ t ++ closing k) (elements_same false k ns q.1)
  element_same marker f = refl

  elements_same : (b : Bool) (k : Frame) (ns : Nodes) → free_of_hex (former_elements b k ns) ≡ true → elements false b k ns ≡ former_elements b k ns
  elements_same b k nil f = refl
  elements_same b k (more h n ns) f =
      let p = parts (lead b k ++ former_name h.0 ++ former_notes h.1 ++ former_element n) (former_elements true k ns) f in
      let q = parts (lead b k ++ former_name h.0 ++ former_notes h.1) (former_element n) p.0 in
      let r = parts (lead b k ++ former_name h.0) (former_notes h.1) q.0 in
      let m = parts (lead b k) (former_name h.0) r.0 in
      joined (joined (ap₂ (λ (a c : List ℕ). lead b k ++ a ++ c) (name-same h.0 m.1) (notes-same h.1 r.1)) (element_same n q.1)) (elements_same true k ns p.1)

-- and the tree text
pub tree_same : (ns : Nodes) → free_of_hex (former_tree ns) ≡ true → tree_text false ns ≡ former_tree ns
unfolding tree_text former_tree
tree_same ns f = elements_same false Top ns f

-- ---- the others: the Rust's bytes with each of these characters replaced

amended-append : (s t : List ℕ) → amended (s ++ t) ≡ amended s ++ amended t
unfolding amended
amended-append [] t = refl
amended-append (c ∷ s) t =
    ap (λ (u : List ℕ). amended_byte c ++ u) (amended-append s t) ∙ sym (append_assoc (amended_byte c) (amended s) (amended t))

byte_table : (c : ℕ) → c < 256 → text_escape c ≡ amended (former_escape c)
unfolding text_escape former_escape has_hex has_letter letter_of amended
byte_table = same text_escape (λ c. amended (former_escape c)) 256 refl

high_amended : (c : ℕ) → 256 ≤ c → text_escape c ≡ amended (former_escape c)
unfolding text_escape former_escape has_letter amended
high_amended c h =
    rw (high_none c (omega arith), ne_eqb c 0 (λ e. omega arith), le-leb 7 c (omega arith), lt-leb c 13 (omega arith), ne_eqb c (byte "\"") (λ e. omega arith), ne_eqb c (byte "\\") (λ e. omega arith), ne_eqb c (byte "'") (λ e. omega arith))
    (rw (high_none c (omega arith)))

byte_amended : (c : ℕ) → text_escape c ≡ amended (former_escape c)
byte_amended c = go (dec_le c 255)
  where
    go : Dec (c ≤ 255) → text_escape c ≡ amended (former_escape c)
    go (yes l) = byte_table c (omega arith)
    go (no l) = high_amended c (omega arith)

body_amended : (s : List ℕ) → text_body s ≡ amended (former_body s)
unfolding text_body former_body amended
body_amended [] = refl
body_amended (c ∷ s) = joined (byte_amended c) (body_amended s) ∙ sym (amended-append (former_escape c) (former_body s))

marked-amended : (q : ℕ) (s : List ℕ) → amended (q ∷ []) ≡ q ∷ [] → marked q s ≡ amended (former_marked q s)
marked-amended q s h =
    joined (sym h) (joined (body_amended s) (sym h) ∙ sym (amended-append (former_body s) (q ∷ []))) ∙ sym (amended-append (q ∷ []) (former_body s ++ (q ∷ [])))

pub string-amended : (s : List ℕ) → string_text s ≡ amended (former_string s)
unfolding string_text former_string amended has_hex
string-amended s = marked-amended (byte "\"") s refl

-- a bare symbol has none of them
part_table : (c : ℕ) → c < 256 → is_part c && has_hex c ≡ false
unfolding is_part is_start is_digit has_hex
part_table = same (λ c. is_part c && has_hex c) (λ c. false) 256 refl

part_none : (c : ℕ) → is_part c ≡ true → has_hex c ≡ false
part_none c h = go (dec_le c 255)
  where
    go : Dec (c ≤ 255) → has_hex c ≡ false
    go (yes l) = ap (λ (p : Bool). p && has_hex c) (sym h) ∙ part_table c (omega arith)
    go (no l) = high_none c (omega arith)

bare_amended : (s : List ℕ) → all_part s ≡ true → s ≡ amended s
unfolding all_part behind_word amended
bare_amended [] h = refl
bare_amended (c ∷ s) h = go (is_part c) refl h (bare_amended s)
  where
    go : (b : Bool) → is_part c ≡ b → empty (if b (behind_word s) (c ∷ s)) ≡ true → (empty (behind_word s) ≡ true → s ≡ amended s) → c ∷ s ≡ amended_byte c ++ amended s
    go true p g e = rw (part_none c p) (ap (λ (t : List ℕ). c ∷ t) (e g))
    go false p g e = never (sym g)

pub symbol-amended : (s : List ℕ) → symbol_text false s ≡ amended (former_symbol s)
unfolding symbol_text former_symbol
symbol-amended s = go (is_keyword s || resembles_symbol_id s || resembles_version_marker s) (is_identifier s) refl
  where
    quoted : marked (byte "'") s ≡ amended (former_marked (byte "'") s)
    quoted = marked-amended (byte "'") s (unfold amended has_hex in refl)

    go : (a b : Bool) → is_identifier s ≡ b → if a (marked (byte "'") s) (if b s (marked (byte "'") s)) ≡ amended (if a (former_marked (byte "'") s) (if b s (former_marked (byte "'") s)))
    go true b e = quoted
    go false true e = bare_amended s (identifier_part s e)
    go false false e = quoted

-- all of them, written out
pub written_out : string_text (1 ∷ 2 ∷ 3 ∷ 4 ∷ 5 ∷ 6 ∷ 14 ∷ 15 ∷ 16 ∷ 17 ∷ 18 ∷ 19 ∷ 20 ∷ 21 ∷ 22 ∷ 23 ∷ 24 ∷ 25 ∷ 26 ∷ 27 ∷ 28 ∷ 29 ∷ 30 ∷ 31 ∷ [])
    ≡ ascii "\"\\x01\\x02\\x03\\x04\\x05\\x06\\x0e\\x0f\\x10\\x11\\x12\\x13\\x14\\x15\\x16\\x17\\x18\\x19\\x1a\\x1b\\x1c\\x1d\\x1e\\x1f\""
unfolding string_text text_body text_escape has_letter has_hex hex_digit
written_out = refl

-- ---- both spellings

spellings_raw : (t : List ℕ) (c : ℕ) → c < 0x20 → if (has_hex c) (character old_raw (c ∷ t)) (some (c ∷ [], t)) ≡ some (c ∷ [], t)
unfolding character starts raw old_raw char_of lead_of has_hex
spellings_raw t = same (λ c. if (has_hex c) (character old_raw (c ∷ t)) (some (c ∷ [], t))) (λ c. some (c ∷ [], t)) 0x20 refl

spellings_hex : (t : List ℕ) (c : ℕ) → c < 0x20 → character old_raw (hex_escape c ++ t) ≡ some (c ∷ [], t)
unfolding character starts escape scalar_escape hex hex_value hex_digit is_scalar utf8
spellings_hex t = same (λ c. character old_raw (hex_escape c ++ t)) (λ c. some (c ∷ [], t)) 0x20 refl

-- "The reader accepts both spellings", by 01's raw rule: raw, and as it is written now
pub both_spellings : (c : ℕ) → has_hex c ≡ true → (t : List ℕ) → (character old_raw (c ∷ t) ≡ some (c ∷ [], t)) × (character old_raw (hex_escape c ++ t) ≡ some (c ∷ [], t))
both_spellings c h t = go (dec_le c 0x1F)
  where
    go : Dec (c ≤ 0x1F) → (character old_raw (c ∷ t) ≡ some (c ∷ [], t)) × (character old_raw (hex_escape c ++ t) ≡ some (c ∷ [], t))
    go (yes l) = (ap (λ (b : Bool). if b (character old_raw (c ∷ t)) (some (c ∷ [], t))) (sym h) ∙ spellings_raw t c (omega arith), spellings_hex t c (omega arith))
    go (no l) = never (sym h ∙ high_none c (omega arith))
