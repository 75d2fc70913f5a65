-- How much of a text is left behind a token: each takes a byte at least. Assumes nothing.
use Prim.Native.Nat.{ℕ, zero, suc, ◌+◌, ◌*◌, ◌≤◌, ◌<◌}
use mathlib.Core.Path.{◌≡◌, refl, sym, ap, subst, ◌∙◌}
use mathlib.Core.Bool.{Bool, true, false, ◌&&◌}
use mathlib.Core.List.{List, [], ◌∷◌}
use mathlib.Core.Option.{Option, none, some}
use native.Mathlib.Omega.{arith}
use lib.Dec.{eqb, leb}
use lib.ListN.{length, drop, length-drop}
use borrow.Author.Tests.{leb-true}
use Rattle.output.specs.Logic.{if, then, on, or, byte, ascii}
use Rattle.text_rules.specs.Texts.{starts, strip}
use Rattle.text_rules.specs.Words.{is_part, word, behind_word, kind_of}
use Rattle.text_rules.specs.Utf8.{char_at, is_scalar}
use Rattle.text_rules.specs.Escapes.{letter, hex_value, hex}
use Rattle.text_rules.specs.Base64.{base64_bytes}
use Rattle.text_rules.specs.declared.words.Kind.{Kind}
use Rattle.text_rules.specs.declared.words.Kind.TheVariants.{Refused}
use Rattle.text_rules.proofs.WordsLaws.{kind-nothing}
use Rattle.tokens.specs.Quoted.{quote, scalar_escape, letter_escape, escape, raw, character, quoted, string, byte_escape, raw_byte, clob_byte, clob_bytes, clob}
use Rattle.tokens.specs.Blob.{until_brace, blob_rest, blob}
use Rattle.tokens.specs.Token.{word_symbol, bare_symbol, quoted_symbol, symbol, type_of, null_behind}
use Rattle.tokens.proofs.QuotedMany.{Read, many, characters-many, clob-many}

-- ---- what is left behind something that was read, if anything was: fewer than n bytes

pub data Left {A : Type 0} (n : ℕ) : Option (A × List ℕ) → Type 0 where
  unread : Left n none
  fewer : {v : A × List ℕ} → length v.1 < n → Left n (some v)

pub left_more : {A : Type 0} {n m : ℕ} {o : Option (A × List ℕ)} → n ≤ m → Left n o → Left m o
left_more l unread = unread
left_more l (fewer {v = v} h) = fewer {v = v} (omega arith)

-- nothing of the text was taken
pub left-all : {A : Type 0} (x : A) (t : List ℕ) → Left (suc (length t)) (some (x, t))
left-all x t = fewer {v = (x, t)} (omega arith)

pub left_if : {A : Type 0} {n : ℕ} (b : Bool) {x y : Option (A × List ℕ)} → (b ≡ true → Left n x) → (b ≡ false → Left n y) → Left n (if b x y)
left_if true f g = f refl
left_if false f g = g refl

-- two steps, of which the first read a part of a text too
pub left_then : {A B : Type 0} {n m : ℕ} (o : Option (A × List ℕ)) (g : A × List ℕ → Option (B × List ℕ)) → Left n o → ((v : A × List ℕ) → length v.1 < n → Left m (g v)) → Left m (then o g)
left_then none g h f = unread
left_then (some v) g (fewer h) f = f v h

-- two steps, of which the first is anything
pub left_after : {A B : Type 0} {n : ℕ} (o : Option A) (g : A → Option (B × List ℕ)) → ((a : A) → o ≡ some a → Left n (g a)) → Left n (then o g)
left_after none g f = unread
left_after (some a) g f = f a refl

pub left_on : {A B : Type 0} {n : ℕ} (o : Option A) (g : A → Option (B × List ℕ)) (p : Option (B × List ℕ)) → ((a : A) → o ≡ some a → Left n (g a)) → (o ≡ none → Left n p) → Left n (on o g p)
left_on none g p f h = h refl
left_on (some a) g p f h = f a refl

pub left_or : {A : Type 0} {n : ℕ} (o p : Option (A × List ℕ)) → Left n o → Left n p → Left n (or o p)
left_or none p g h = h
left_or (some v) p g h = g

-- ---- bytes, words and hex digits

pub behind_byte : (b : ℕ) (t : List ℕ) → starts b t ≡ true → length (drop 1 t) < length t
unfolding starts
behind_byte b [] e = absurd (let z : ◌≡◌ {A = ℕ} 0 1 = cc in omega arith)
behind_byte b (c ∷ t) e = omega arith

pub strip_long : (w t u : List ℕ) → strip w t ≡ some u → length u + length w ≡ length t
unfolding strip
strip_long [] t u e = let z : t ≡ u = cc in omega (arith, ap length z)
strip_long (x ∷ w) [] u e = absurd (let z : ◌≡◌ {A = ℕ} 0 1 = cc in omega arith)
strip_long (x ∷ w) (c ∷ t) u e = go (eqb c x) e (strip_long w t u)
  where
    go : (b : Bool) → if b (strip w t) none ≡ some u → (strip w t ≡ some u → length u + length w ≡ length t) → length u + suc (length w) ≡ suc (length t)
    go true e h = let z = h e in omega arith
    go false e h = absurd (let z : ◌≡◌ {A = ℕ} 0 1 = cc in omega arith)

pub word_long : (t : List ℕ) → length (behind_word t) + length (word t) ≡ length t
unfolding behind_word word
word_long [] = refl
word_long (c ∷ t) = go (is_part c) (word_long t)
  where
    go : (b : Bool) → length (behind_word t) + length (word t) ≡ length t → length (if b (behind_word t) (c ∷ t)) + length (if b (c ∷ word t) []) ≡ suc (length t)
    go true h = omega arith
    go false h = omega arith

-- a word that is something has a byte
pub word_some : (t : List ℕ) → (kind_of (word t) ≡ Refused → ⊥) → length (behind_word t) < length t
word_some t n = go (word t) refl
  where
    go : (w : List ℕ) → word t ≡ w → length (behind_word t) < length t
    go [] e = absurd (n (ap kind_of e ∙ kind-nothing))
    go (c ∷ w) e = let k : length (word t) ≡ suc (length w) = ap length e in omega (arith, word_long t)

hex-left : (w a : ℕ) (t : List ℕ) → Left (suc (length t)) (hex w a t)
unfolding hex
hex-left zero a t = left-all a t
hex-left (suc w) a [] = unread
hex-left (suc w) a (c ∷ t) = left_after (hex_value c) _ (λ d _. left_more (omega arith) (hex-left w (a * 16 + d) t))

-- ---- quoted text

quote-left : (q : ℕ) (t r : List ℕ) → quote q t ≡ some r → length r < length t
unfolding quote
quote-left q [] r e = absurd (let z : ◌≡◌ {A = ℕ} 0 1 = cc in omega arith)
quote-left q (c ∷ t) r e = go (eqb c q) e
  where
    go : (b : Bool) → if b (some t) none ≡ some r → length r < suc (length t)
    go true e = let z : t ≡ r = cc in omega (arith, ap length z)
    go false e = absurd (let z : ◌≡◌ {A = ℕ} 0 1 = cc in omega arith)

scalar-left : (w : ℕ) (t : List ℕ) → Left (suc (length t)) (scalar_escape w t)
unfolding scalar_escape
scalar-left w t = left_then (hex w 0 t) _ (hex-left w 0 t) (λ v h. left_if (is_scalar v.0) (λ _. fewer h) (λ _. unread))

letter-left : (t : List ℕ) → Left (length t) (letter_escape t)
unfolding letter_escape
letter-left [] = unread
letter-left (c ∷ t) = left_after (letter c) _ (λ v _. fewer (omega arith))

escape_left : (t : List ℕ) → Left (length t) (escape t)
unfolding escape
escape_left t =
    left_if (starts (byte "x") t) (λ e. left_more (behind_byte (byte "x") t e) (scalar-left 2 (drop 1 t))) (λ _.
    left_if (starts (byte "u") t) (λ e. left_more (behind_byte (byte "u") t e) (scalar-left 4 (drop 1 t))) (λ _.
    left_if (starts (byte "U") t) (λ e. left_more (behind_byte (byte "U") t e) (scalar-left 8 (drop 1 t))) (λ _. letter-left t)))

both : (x y : Bool) → (x && y) ≡ true → y ≡ true
both true y e = e
both false y e = absurd (let z : ◌≡◌ {A = ℕ} 0 1 = cc in omega arith)

-- By any raw rule.
module _ (is_raw : ℕ → Bool) where
  raw-left : (t : List ℕ) → Left (length t) (raw is_raw t)
  unfolding raw
  raw-left [] = unread
  raw-left (c ∷ t) =
      let n = char_at (c ∷ t) 0 in
      left_if (is_raw c && leb 1 n) (λ e. fewer (omega (arith, leb-true 1 n (both (is_raw c) (leb 1 n) e), length-drop n (c ∷ t)))) (λ _. unread)

  pub character-left : (t : List ℕ) → Left (length t) (character is_raw t)
  unfolding character
  character-left t = left_if (starts (byte "\\") t) (λ e. left_more (let l = behind_byte (byte "\\") t e in omega arith) (escape_left (drop 1 t))) (λ _. raw-left t)

-- pieces up to a mark
many-left : (step : List ℕ → Read) → ((t : List ℕ) → Left (length t) (step t)) → (f q : ℕ) (t : List ℕ) → Left (length t) (many step f q t)
unfolding many
many-left step h zero q t = unread
many-left step h (suc f) q t =
    left_on (quote q t) _ _ (λ r e. fewer (quote-left q t r e)) (λ _.
    left_then (step t) _ (h t) (λ v l. left_then (many step f q v.1) _ (many-left step h f q v.1) (λ vs k. fewer (omega arith))))

-- By any raw rule.
module _ (is_raw : ℕ → Bool) where
  quoted-left : (q : ℕ) (t : List ℕ) → Left (length t) (quoted is_raw q t)
  unfolding quoted
  quoted-left q t = subst (Left (length t)) (sym (characters-many is_raw (suc (length t)) q t)) (many-left (character is_raw) (character-left is_raw) (suc (length t)) q t)

  pub string-left : (t : List ℕ) → Left (length t) (string is_raw t)
  unfolding string
  string-left t = left_if (starts (byte "\"") t) (λ e. left_more (let l = behind_byte (byte "\"") t e in omega arith) (quoted-left (byte "\"") (drop 1 t))) (λ _. unread)

-- ---- clobs

byte_escape-left : (t : List ℕ) → Left (length t) (byte_escape t)
unfolding byte_escape
byte_escape-left t =
    left_if (starts (byte "x") t) (λ e. left_then (hex 2 0 (drop 1 t)) _ (hex-left 2 0 (drop 1 t)) (λ v h. fewer (let l = behind_byte (byte "x") t e in omega arith))) (λ _. letter-left t)

raw_byte_left : (t : List ℕ) → Left (length t) (raw_byte t)
unfolding raw_byte
raw_byte_left [] = unread
raw_byte_left (c ∷ t) = left_if (leb 0x20 c && leb c 0x7E) (λ _. fewer (omega arith)) (λ _. unread)

pub clob_byte_left : (t : List ℕ) → Left (length t) (clob_byte t)
unfolding clob_byte
clob_byte_left t = left_if (starts (byte "\\") t) (λ e. left_more (let l = behind_byte (byte "\\") t e in omega arith) (byte_escape-left (drop 1 t))) (λ _. raw_byte_left t)

clob-bytes-left : (f : ℕ) (t : List ℕ) → Left (length t) (clob_bytes f t)
clob-bytes-left f t = subst (Left (length t)) (sym (clob-many f t)) (many-left clob_byte clob_byte_left f (byte "\"") t)

pub clob-left : (t : List ℕ) → Left (length t) (clob t)
unfolding clob
clob-left t =
    left_after (strip (ascii "{{\"") t) _ (λ u e.
    left_then (clob_bytes (suc (length u)) u) _ (clob-bytes-left (suc (length u)) u) (λ v l.
    left_after (strip (ascii "}}") v.1) _ (λ r k. fewer (omega (arith, strip_long (ascii "{{\"") t u e, strip_long (ascii "}}") v.1 r k)))))

-- ---- blobs

pub blob-left : (t : List ℕ) → Left (length t) (blob t)
unfolding blob blob_rest
blob-left t =
    left_after (strip (ascii "{{") t) _ (λ u e.
    left_after (base64_bytes (until_brace u)) _ (λ s _.
    left_after (strip (ascii "}}") (drop (length (until_brace u)) u)) _ (λ r k. fewer (omega (arith, strip_long (ascii "{{") t u e, strip_long (ascii "}}") (drop (length (until_brace u)) u) r k, length-drop (length (until_brace u)) u)))))

-- ---- symbols

bare_left : (t : List ℕ) → Left (length t) (bare_symbol t)
unfolding bare_symbol
bare_left t = left_after (word_symbol (kind_of (word t)) (word t)) _ (λ s e. fewer (word_some t (λ r. clash (ap (λ (k : Kind). word_symbol k (word t)) r) e)))
  where
    clash : {A : Type 0} {o : Option A} {a : A} → o ≡ none → o ≡ some a → ⊥
    clash h e = let z : ◌≡◌ {A = ℕ} 0 1 = cc in omega arith

pub symbol-left : (is_raw : ℕ → Bool) (t : List ℕ) → Left (length t) (symbol is_raw t)
unfolding symbol quoted_symbol
symbol-left is_raw t =
    left_if (starts (byte "'") t) (λ e. left_then (quoted is_raw (byte "'") (drop 1 t)) _ (quoted-left is_raw (byte "'") (drop 1 t)) (λ v h. fewer (let l = behind_byte (byte "'") t e in omega arith))) (λ _. bare_left t)

-- ---- nulls

pub null-left : (t : List ℕ) → Left (suc (length t)) (null_behind t)
unfolding null_behind
null-left t =
    left_if (starts (byte ".") t) (λ e. left_after (type_of (word (drop 1 t))) _ (λ k _. fewer (let l = behind_byte (byte ".") t e in omega (arith, word_long (drop 1 t))))) (λ _. left-all 0 t)
