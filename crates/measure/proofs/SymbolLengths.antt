-- The lengths of symbols, by their bytes in words. Assumes nothing.
use mathlib.Core.Path.{◌≡◌, refl, sym, ap, ap₂, ◌∙◌}
use mathlib.Core.Bool.{Bool, true, false, ◌&&◌, not}
use mathlib.Core.List.{List, [], ◌∷◌, ◌++◌}
use Prim.Native.Nat.{ℕ, zero, suc, ◌+◌, ◌-◌, ◌%◌, ◌≤◌, ◌<◌}
use native.Mathlib.Decide.{dec_le}
use native.Mathlib.Omega.{arith}
use lib.Dec.{eqb}
use lib.ListN.{length, get_or, take, drop, length-append}
use lib.Seq.{take-add, drop-drop}
use borrow.Author.Tests.{lt-leb, ne_eqb}
use Rattle.output.specs.Logic.{if, byte, ascii}
use Rattle.output.specs.Wrote.{le_bytes}
use Rattle.output.proofs.Bools.{never, both}
use Rattle.output.proofs.Laws.{length-le}
use Rattle.lanes.specs.Lanes.{every, unmarked_by, letter_mark, no_part}
use Rattle.lanes.proofs.Table.{same as agree}
use Rattle.text_rules.specs.Digits.{is_digit}
use Rattle.text_rules.specs.Texts.{empty}
use Rattle.text_rules.specs.Escapes.{has_letter, has_hex, text_escape, text_body}
use Rattle.text_rules.specs.Words.{is_start, is_part, behind_word, is_keyword, resembles_symbol_id, resembles_version_marker, is_identifier}
use Rattle.text_rules.specs.WordSteps.{is_bare, all_part}
use Rattle.text_rules.specs.Text.{marked, symbol_text}
use Rattle.text_rules.proofs.EscapesLaws.{body_longer}
use Rattle.text_rules.proofs.LaneTests.{identifier_part, part-word, word-part, other-marked, keyword_marked}
use Rattle.text_rules.proofs.SymbolsText.{symbol_bare, symbol_always, symbol-marked}
use Rattle.text_rules.proofs.WordsLaws.{same_long, part_small, no_keyword, starts_other, id_none, marker_none, identifier_other}
use Rattle.measure.specs.Steps.{quotes_of, quoting}
use Rattle.measure.proofs.EscapeLengths.{body_length-append, marked-length}

-- ---- bytes of identifiers

part_cons : (c : ℕ) (s : List ℕ) → all_part (c ∷ s) ≡ is_part c && all_part s
unfolding all_part behind_word
part_cons c s = go (is_part c)
  where
    go : (b : Bool) → empty (if b (behind_word s) (c ∷ s)) ≡ b && empty (behind_word s)
    go true = refl
    go false = refl

and_assoc : (a b c : Bool) → a && (b && c) ≡ (a && b) && c
and_assoc true b c = refl
and_assoc false b c = refl

part-append : (s t : List ℕ) → all_part (s ++ t) ≡ all_part s && all_part t
part-append [] t = unfold all_part behind_word in refl
part-append (c ∷ s) t =
    part_cons c (s ++ t) ∙ ap (λ (b : Bool). is_part c && b) (part-append s t) ∙ and_assoc (is_part c) (all_part s) (all_part t) ∙ ap (λ (b : Bool). b && all_part t) (sym (part_cons c s))

-- none of them is escaped
part_test : (b : ℕ) → b < 256 → if (is_part b) (text_escape b) (b ∷ []) ≡ b ∷ []
unfolding is_part is_start is_digit text_escape has_hex has_letter
part_test = agree (λ b. if (is_part b) (text_escape b) (b ∷ [])) (λ b. b ∷ []) 256 refl

part-escape : (b : ℕ) → is_part b ≡ true → text_escape b ≡ b ∷ []
part-escape b h = go (dec_le b 255)
  where
    go : Dec (b ≤ 255) → text_escape b ≡ b ∷ []
    go (yes l) = ap (λ (p : Bool). if p (text_escape b) (b ∷ [])) (sym h) ∙ part_test b (omega arith)
    go (no l) = never (sym h ∙ sym (part_small b (omega arith)) ∙ lt-leb b 122 (omega arith))

part-raw : (s : List ℕ) → all_part s ≡ true → text_body s ≡ s
unfolding text_body
part-raw [] h = refl
part-raw (c ∷ s) h =
    let p = both (is_part c) (all_part s) (sym (part_cons c s) ∙ h) in
    rw (part-escape c p.0, part-raw s p.1)

-- ---- whether identifier bytes are bare, by the first

pub start-marked : (s : List ℕ) → 0 < length s → is_start (get_or s 0 0) ≡ false → is_bare s ≡ false
unfolding is_bare
start-marked s l h = rw (identifier_other s l h)

start_identifier : (s : List ℕ) → 0 < length s → all_part s ≡ true → is_start (get_or s 0 0) ≡ true → is_identifier s ≡ true
unfolding is_identifier all_part
start_identifier [] l p h = absurd (omega arith)
start_identifier (c ∷ s) l p h = rw h (both (is_part c) (all_part s) (sym (part_cons c s) ∙ p)).1

module _ (s : List ℕ) (l : 0 < length s) (p : all_part s ≡ true) (h : is_start (get_or s 0 0) ≡ true) where
  pub letter_bare : (get_or s 0 0 ≡ byte "$" → ⊥) → not (is_keyword s) ≡ is_bare s
  unfolding is_bare
  letter_bare d =
      let z = starts_other s (byte "$") l d in
      rw (start_identifier s l p h, id_none s z, marker_none s z) (go (is_keyword s))
    where
      go : (k : Bool) → not k ≡ not k && true
      go true = refl
      go false = refl

  pub dollar_bare : get_or s 0 0 ≡ byte "$" → not (resembles_symbol_id s) && not (resembles_version_marker s) ≡ is_bare s
  unfolding is_bare
  dollar_bare d = rw (start_identifier s l p h, no_keyword s l (λ e. omega arith) (λ e. omega arith) (λ e. omega arith))

-- ---- the setting, as the walk has it

pub quotes_most : (quoted : Bool) → quotes_of quoted ≤ 2
quotes_most true = omega arith
quotes_most false = omega arith

quotes_back : (quoted : Bool) → quoting (quotes_of quoted) ≡ quoted
quotes_back true = refl
quotes_back false = refl

-- m marks stand for a setting
module _ (quoted : Bool) (m : ℕ) (e : m ≡ quotes_of quoted) where
  pub setting_is : quoting m ≡ quoted
  setting_is = ap (λ (i : ℕ). quoting i) e ∙ quotes_back quoted

  pub quotes_are : m ≡ quotes_of (quoting m)
  quotes_are = e ∙ sym (ap (λ (q : Bool). quotes_of q) setting_is)

-- ---- symbols

-- quoted with no escapes
parts_marked : (s : List ℕ) → all_part s ≡ true → length (marked (byte "'") s) ≡ length s + 2
parts_marked s p = marked-length (byte "'") s ∙ ap (λ (t : List ℕ). length t + 2) (part-raw s p)

module _ (quoted : Bool) where
  pub quoted-length : (s : List ℕ) → is_bare s ≡ false → length (symbol_text quoted s) ≡ length (text_body s) + 2
  quoted-length s h = ap length (symbol-marked quoted s h) ∙ marked-length (byte "'") s

  pub plain-quoted : (s : List ℕ) → is_bare s ≡ false → all_part s ≡ true → length (symbol_text quoted s) ≡ length s + 2
  plain-quoted s h p = ap length (symbol-marked quoted s h) ∙ parts_marked s p

  pub nothing-length : length (symbol_text quoted []) ≡ 2
  nothing-length = quoted-length [] (unfold is_bare is_identifier in refl) ∙ unfold text_body in refl

-- what could stand bare: no byte of an identifier is escaped
bare_part : (s : List ℕ) → is_bare s ≡ true → all_part s ≡ true
unfolding is_bare
bare_part s h = identifier_part s (both (is_identifier s) _ h).0

pub open_length : (quoted : Bool) (s : List ℕ) → is_bare s ≡ true → length (symbol_text quoted s) ≡ length s + quotes_of quoted
open_length true s h = ap length (symbol_always s) ∙ parts_marked s (bare_part s h)
open_length false s h = omega (arith, ap length (symbol_bare s h))

-- what stands bare with the setting off could
pub stands_open : (s : List ℕ) → symbol_text false s ≡ s → is_bare s ≡ true
stands_open s e = go (is_bare s) refl
  where
    go : (b : Bool) → is_bare s ≡ b → is_bare s ≡ true
    go true h = h
    go false h = absurd (omega (arith, quoted-length false s h, ap length e, body_longer s))

-- ---- a text that starts with the lowest byte of a word, which is no `$`

-- of such bytes letters and `_` start an identifier, digits do not
start_test : (b : ℕ) → b < 256 → is_part b && (not (eqb b (byte "$")) && not (unmarked_by letter_mark b)) ≡ is_part b && (not (eqb b (byte "$")) && is_start b)
unfolding unmarked_by is_part is_start is_digit
start_test = agree (λ b. is_part b && (not (eqb b (byte "$")) && not (unmarked_by letter_mark b))) (λ b. is_part b && (not (eqb b (byte "$")) && is_start b)) 256 refl

first_part : (s : List ℕ) → 0 < length s → all_part s ≡ true → is_part (get_or s 0 0) ≡ true
first_part [] l p = absurd (omega arith)
first_part (c ∷ s) l p = (both (is_part c) (all_part s) (sym (part_cons c s) ∙ p)).0

module _ (quoted : Bool) (s : List ℕ) (x : ℕ) (l : 0 < length s) (f : get_or s 0 0 ≡ x % 256) (d : x % 256 ≡ byte "$" → ⊥) (p : all_part s ≡ true) where
  first-start : not (unmarked_by letter_mark (x % 256)) ≡ is_start (get_or s 0 0)
  first-start =
      let q : is_part (x % 256) ≡ true = rw f at (first_part s l p) in
      rw f (rw (q, ne_eqb (x % 256) (byte "$") d) at (start_test (x % 256) (omega arith)))

  letter-length : not (unmarked_by letter_mark (x % 256)) ≡ true → is_keyword s ≡ false → length (symbol_text quoted s) ≡ length s + quotes_of quoted
  letter-length m k = open_length quoted s (sym (letter_bare s l p (sym first-start ∙ m) (rw f d)) ∙ ap not k)

  digit-length : not (unmarked_by letter_mark (x % 256)) ≡ false → length (symbol_text quoted s) ≡ length s + 2
  digit-length m = plain-quoted quoted s (start-marked s l (sym first-start ∙ m)) p

-- ---- a word

first_byte : (n x : ℕ) → 1 ≤ n → get_or (le_bytes n x) 0 0 ≡ x % 256
unfolding le_bytes
first_byte zero x l = absurd (omega arith)
first_byte (suc n) x l = refl

module _ (quoted : Bool) (n x : ℕ) where
  module _ (l : 1 ≤ n) (d : x % 256 ≡ byte "$" → ⊥) (p : every (unmarked_by no_part) (le_bytes n x) ≡ true) where
    abbrev word_parts : all_part (le_bytes n x) ≡ true
    word_parts = sym (part-word n x) ∙ p

    pub keyword_length : is_keyword (le_bytes n x) ≡ true → n + 2 ≡ length (symbol_text quoted (le_bytes n x))
    keyword_length k = omega (arith, plain-quoted quoted (le_bytes n x) (keyword_marked (le_bytes n x) k) word_parts, length-le n x)

    pub bare_length : not (unmarked_by letter_mark (x % 256)) ≡ true → is_keyword (le_bytes n x) ≡ false → n + quotes_of quoted ≡ length (symbol_text quoted (le_bytes n x))
    bare_length m k = omega (arith, letter-length quoted (le_bytes n x) x (omega (arith, length-le n x)) (first_byte n x l) d word_parts m k, length-le n x)

    pub number-length : not (unmarked_by letter_mark (x % 256)) ≡ false → n + 2 ≡ length (symbol_text quoted (le_bytes n x))
    number-length m = omega (arith, digit-length quoted (le_bytes n x) x (omega (arith, length-le n x)) (first_byte n x l) d word_parts m, length-le n x)

  pub other_length : every (unmarked_by no_part) (le_bytes n x) ≡ false → length (symbol_text quoted (le_bytes n x)) ≡ length (text_body (le_bytes n x)) + 2
  other_length p = quoted-length quoted (le_bytes n x) (other-marked (le_bytes n x) (sym (part-word n x) ∙ p))

-- ---- two words, the second behind eight bytes of the first

-- n bytes at a place
pub two_words : (s : List ℕ) (i n x y : ℕ) → 8 ≤ n → n ≤ 16 → le_bytes 8 x ≡ take 8 (drop i s) → le_bytes 8 y ≡ take 8 (drop (i + 8) s) → le_bytes 8 x ++ le_bytes (n - 8) y ≡ take n (drop i s)
two_words s i n x y l h e f =
    let z : n ≡ 8 + (n - 8) = omega arith in
    ap₂ (λ (a b : List ℕ). a ++ b) e (word-part s (i + 8) (n - 8) y (omega arith) f ∙ ap (take (n - 8)) (sym (drop-drop 8 i s)))
    ∙ sym (ap (λ (k : ℕ). take k (drop i s)) z ∙ take-add 8 (n - 8) (drop i s))

-- a keyword has five bytes at most
pub long_keyword : (s : List ℕ) → 5 < length s → is_keyword s ≡ false
unfolding is_keyword
long_keyword s h =
    rw (same_long (ascii "true") s (λ e. omega arith), same_long (ascii "false") s (λ e. omega arith), same_long (ascii "nan") s (λ e. omega arith), same_long (ascii "null") s (λ e. omega arith))

module _ (quoted : Bool) (n x y : ℕ) (l : 9 ≤ n) (h : n ≤ 16) where
  abbrev both_words : List ℕ
  both_words = le_bytes 8 x ++ le_bytes (n - 8) y

  words-length : length both_words ≡ n
  words-length = omega (arith, length-append (le_bytes 8 x) (le_bytes (n - 8) y), length-le 8 x, length-le (n - 8) y)

  words-part : all_part both_words ≡ every (unmarked_by no_part) (le_bytes 8 x) && every (unmarked_by no_part) (le_bytes (n - 8) y)
  words-part = part-append (le_bytes 8 x) (le_bytes (n - 8) y) ∙ ap₂ (λ (a b : Bool). a && b) (sym (part-word 8 x)) (sym (part-word (n - 8) y))

  module _ (d : x % 256 ≡ byte "$" → ⊥) (p : every (unmarked_by no_part) (le_bytes 8 x) ≡ true) (q : every (unmarked_by no_part) (le_bytes (n - 8) y) ≡ true) where
    words_parts : all_part both_words ≡ true
    words_parts = words-part ∙ rw (p, q)

    pub words_bare : not (unmarked_by letter_mark (x % 256)) ≡ true → n + quotes_of quoted ≡ length (symbol_text quoted both_words)
    unfolding le_bytes
    words_bare m = omega (arith, letter-length quoted both_words x (omega (arith, words-length)) refl d words_parts m (long_keyword both_words (omega (arith, words-length))), words-length)

    pub words-number : not (unmarked_by letter_mark (x % 256)) ≡ false → n + 2 ≡ length (symbol_text quoted both_words)
    words-number m = omega (arith, digit-length quoted both_words x (omega (arith, words-length)) (unfold le_bytes in refl) d words_parts m, words-length)

  pub words-other : every (unmarked_by no_part) (le_bytes 8 x) && every (unmarked_by no_part) (le_bytes (n - 8) y) ≡ false
      → length (symbol_text quoted both_words) ≡ length (text_body (le_bytes 8 x)) + length (text_body (le_bytes (n - 8) y)) + 2
  words-other p = omega (arith, quoted-length quoted both_words (other-marked both_words (words-part ∙ p)), body_length-append (le_bytes 8 x) (le_bytes (n - 8) y))

-- ---- many words

-- the bytes left from i on: eight, which a word has, and the others
pub part_left : (s : List ℕ) (n i x : ℕ) → i + 8 ≤ n → le_bytes 8 x ≡ take 8 (drop i s)
    → all_part (take (n - i) (drop i s)) ≡ every (unmarked_by no_part) (le_bytes 8 x) && all_part (take (n - (i + 8)) (drop (i + 8) s))
part_left s n i x h e =
    let k = n - (i + 8) in
    let z : n - i ≡ 8 + k = omega arith in
    ap (λ (j : ℕ). all_part (take j (drop i s))) z
    ∙ ap all_part (take-add 8 k (drop i s))
    ∙ part-append (take 8 (drop i s)) (take k (drop 8 (drop i s)))
    ∙ ap₂ (λ (b c : Bool). b && c) (ap all_part (sym e) ∙ sym (part-word 8 x)) (ap (λ (t : List ℕ). all_part (take k t)) (drop-drop 8 i s))

-- k bytes that a word has
pub part-last : (s : List ℕ) (at k x : ℕ) → k ≤ 8 → le_bytes 8 x ≡ take 8 (drop at s) → every (unmarked_by no_part) (le_bytes k x) ≡ all_part (take k (drop at s))
part-last s at k x h e = part-word k x ∙ ap all_part (word-part s at k x h e)
