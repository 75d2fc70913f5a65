-- Symbols that are written are read back. Assumes nothing.
use Prim.Native.Nat.{ℕ, ◌≤◌, ◌<◌, ◌^◌}
use mathlib.Core.Path.{◌≡◌, refl, sym, ap, ◌∙◌}
use mathlib.Core.List.{List, [], ◌∷◌, ◌++◌, append_assoc, append-nil}
use mathlib.Core.Bool.{Bool, true, false, ◌||◌}
use mathlib.Core.Option.{some}
use native.Mathlib.Omega.{arith}
use lib.Dec.{eqb}
use lib.ListN.{length}
use borrow.Author.Tests.{le-leb, ne_eqb}
use Rattle.output.specs.Logic.{byte}
use Rattle.text_rules.specs.Digits.{is_digit, digits, behind_digits}
use Rattle.text_rules.specs.Texts.{starts, strip, ended}
use Rattle.text_rules.specs.Words.{is_start, is_part, word, behind_word, all_digits, resembles_version_marker, is_identifier, symbol_id, kind_of}
use Rattle.text_rules.specs.Utf8.{valid}
use Rattle.text_rules.specs.Escapes.{text_body}
use Rattle.text_rules.specs.Text.{marked, symbol_text, symbol_id_text}
use Rattle.text_rules.specs.Text.{Sym}
use Rattle.tokens.specs.Quoted.{symbol_mark, raw_rule}
use Rattle.tokens.specs.Token.{word_symbol, bare_symbol, quoted_symbol, symbol}
use Rattle.text_rules.specs.WordSteps.{is_bare}
use Rattle.text_rules.specs.declared.words.Kind.{Kind}
use Rattle.text_rules.specs.declared.words.Kind.TheVariants.{Number, Text}
use Rattle.text_rules.proofs.DigitLaws.{never, Digits, digits-digits, digits-some, digit_range, past_digits, number_digits, whole-digits}
use Rattle.text_rules.proofs.WordsLaws.{kind_bare, dollar_number}
use Rattle.text_rules.proofs.SymbolsText.{bare_is, symbol_either}
use Rattle.tokens.proofs.QuotedBack.{quoted_back}
use Rattle.text_rules.proofs.WordsBack.{identifier_word, Stops, stops, word_back, behind_back, behind-digits, identifier_parts, start-part, unlike}

-- ---- what a bare word is read as

-- a written bare symbol is symbol text, so nothing takes it for another token
pub bare_kind : (s : List ℕ) → is_bare s ≡ true → kind_of s ≡ Text
bare_kind s h = let b = bare_is s h in kind_bare s b.no_keyword b.no_version b.no_number b.identifier

word-symbol : (w r : List ℕ) (k : Kind) (x : Sym) → behind_word w ≡ [] → kind_of w ≡ k → word_symbol k w ≡ some x → Stops r → bare_symbol (w ++ r) ≡ some (x, r)
unfolding bare_symbol
word-symbol w r k x a e h s = rw (word_back w r a s, e, h, behind_back w r a s)

quote-part : is_part (byte "'") ≡ false
unfolding is_part is_start is_digit
quote-part = refl

symbol-word : (is_raw : ℕ → Bool) (c : ℕ) (t : List ℕ) → is_part c ≡ true → symbol is_raw (c ∷ t) ≡ bare_symbol (c ∷ t)
unfolding symbol starts
symbol-word is_raw c t h = rw (unlike c 39 h quote-part)

bare_back : (is_raw : ℕ → Bool) (s r : List ℕ) → is_bare s ≡ true → ended r ≡ true → symbol is_raw (s ++ r) ≡ some (Sym.text s, r)
bare_back is_raw [] r h e = never (sym (let b = bare_is [] h in unfold is_identifier in b.identifier))
bare_back is_raw (c ∷ w) r h e =
    let i = identifier_parts c w (bare_is (c ∷ w) h).identifier in
    symbol-word is_raw c (w ++ r) (start-part c i.0)
    ∙ word-symbol (c ∷ w) r Text (Sym.text (c ∷ w)) i.1 (bare_kind (c ∷ w) h) refl (stops r e)

-- ---- `$` and a number

dollar_digits : (w : List ℕ) → 1 ≤ length w → Digits w → (all_digits w ≡ true) × (resembles_version_marker (byte "$" ∷ w) ≡ false)
unfolding all_digits resembles_version_marker strip
dollar_digits [] l h = absurd (omega arith)
dollar_digits (c ∷ w) l h =
    let d = digit_range c h.0 in
    let p : behind_digits w ≡ [] = ap behind_digits (sym (append-nil w)) ∙ past_digits w [] h.1 tt in
    (rw (h.0, p), rw (ne_eqb c 105 (λ q. omega arith)))

pub id_kind : (n : ℕ) → n < 2 ^ 32 → kind_of (symbol_id_text n) ≡ Number n
unfolding symbol_id_text
id_kind n h =
    let w = dollar_digits (digits n) (digits-some n) (digits-digits n) in
    dollar_number (byte "$" ∷ digits n) (unfold starts in refl) w.1 w.0
    ∙ unfold symbol_id in rw (whole-digits n (omega arith), number_digits n (omega arith), le-leb n 4_294_967_295 (omega arith))

dollar_part : is_part (byte "$") ≡ true
unfolding is_part is_start
dollar_part = refl

dollar_word : (n : ℕ) → behind_word (symbol_id_text n) ≡ []
unfolding symbol_id_text behind_word
dollar_word n = rw dollar_part (behind-digits (digits n) (digits-digits n))

pub symbol_id_back : (is_raw : ℕ → Bool) (n : ℕ) (r : List ℕ) → n < 2 ^ 32 → ended r ≡ true → symbol is_raw (symbol_id_text n ++ r) ≡ some (Sym.id n, r)
symbol_id_back is_raw n r h e =
    let b : symbol is_raw (symbol_id_text n ++ r) ≡ bare_symbol (symbol_id_text n ++ r) = unfold symbol_id_text in symbol-word is_raw 36 (digits n ++ r) dollar_part in
    b ∙ word-symbol (symbol_id_text n) r (Number n) (Sym.id n) (dollar_word n) (id_kind n h) refl (stops r e)

-- ---- quoted symbols, by the round trip of quoted text

marked_back : (old : Bool) (s r : List ℕ) → valid s ≡ true → symbol (raw_rule old) (marked (byte "'") s ++ r) ≡ some (Sym.text s, r)
unfolding symbol starts quoted_symbol
marked_back old s r h = rw (append_assoc (text_body s) (byte "'" ∷ []) r, quoted_back old symbol_mark s r h)

-- under either setting of the writer
pub symbol_back : (quoted old : Bool) (s r : List ℕ) → valid s ≡ true → ended r ≡ true → symbol (raw_rule old) (symbol_text quoted s ++ r) ≡ some (Sym.text s, r)
symbol_back quoted old s r h e =
    symbol_either (λ t. symbol (raw_rule old) (t ++ r) ≡ some (Sym.text s, r)) quoted s (λ i. bare_back (raw_rule old) s r i e) (marked_back old s r h)

-- ---- the words and first bytes of what is written, which tell a symbol from other tokens

pub bare_word : (s r : List ℕ) → is_bare s ≡ true → ended r ≡ true → (word (s ++ r) ≡ s) × (behind_word (s ++ r) ≡ r)
bare_word s r h e = let a = identifier_word s (bare_is s h).identifier in (word_back s r a (stops r e), behind_back s r a (stops r e))

pub id_word : (n : ℕ) (r : List ℕ) → ended r ≡ true → (word (symbol_id_text n ++ r) ≡ symbol_id_text n) × (behind_word (symbol_id_text n ++ r) ≡ r)
id_word n r e = let a = dollar_word n in (word_back (symbol_id_text n) r a (stops r e), behind_back (symbol_id_text n) r a (stops r e))

-- a text that starts with a single quote mark or as an identifier does
pub record Begins (t : List ℕ) : Type 0 where
  pub first : ℕ
  pub rest : List ℕ
  pub is : t ≡ first ∷ rest
  pub tells : eqb first (byte "'") || is_start first ≡ true

pub symbol_begins : (quoted : Bool) (s : List ℕ) → Begins (symbol_text quoted s)
symbol_begins quoted s =
    symbol_either Begins quoted s (bare_begins s) record { first = byte "'"; rest = text_body s ++ (byte "'" ∷ []); is = refl; tells = refl }
  where
    or_right : (a b : Bool) → b ≡ true → a || b ≡ true
    or_right true b h = refl
    or_right false b h = h

    bare_begins : (s : List ℕ) → is_bare s ≡ true → Begins s
    bare_begins [] h = never (sym (let b = bare_is [] h in unfold is_identifier in b.identifier))
    bare_begins (c ∷ w) h = record { first = c; rest = w; is = refl; tells = or_right (eqb c (byte "'")) (is_start c) (identifier_parts c w (bare_is (c ∷ w) h).identifier).0 }

pub id_begins : (n : ℕ) → Begins (symbol_id_text n)
unfolding symbol_id_text is_start
id_begins n = record { first = byte "$"; rest = digits n; is = refl; tells = refl }
