-- The rules of tokens take clean bytes alone: quoted text by Ion's raw rule, clobs, blobs, bare words and nulls. Assumes nothing.
use Prim.Native.Nat.{ℕ, zero, suc, ◌+◌, ◌*◌}
use mathlib.Core.Path.{◌≡◌, refl, sym, ap, ◌∙◌}
use mathlib.Core.Bool.{Bool, true, false, ◌&&◌}
use mathlib.Core.List.{List, [], ◌∷◌, ◌++◌}
use mathlib.Core.Option.{Option, none, some}
use lib.Dec.{eqb, leb}
use lib.ListN.{length, take, drop, take-append-drop}
use borrow.Author.Tests.{leb-true, not-true}
use Rattle.output.specs.Logic.{if, byte, ascii}
use Rattle.output.proofs.Bools.{both}
use Rattle.text_rules.specs.Texts.{starts, strip}
use Rattle.text_rules.specs.Words.{word, behind_word, kind_of}
use Rattle.text_rules.specs.Text.{blob_text}
use Rattle.text_rules.specs.Utf8.{char_at, is_scalar}
use Rattle.text_rules.specs.Escapes.{letter, hex_value, hex}
use Rattle.text_rules.specs.declared.words.Kind.{Kind}
use Rattle.text_rules.specs.declared.words.Kind.TheVariants.{Null, True, False, Nan, Marker, Number, Text, Refused}
use Rattle.tokens.specs.Quoted.{quote, scalar_escape, letter_escape, escape, old_raw, strict_raw, raw, character, quoted, string, byte_escape, raw_byte, clob_byte, clob_bytes, clob}
use Rattle.tokens.specs.Blob.{blob}
use Rattle.tokens.specs.Token.{word_symbol, bare_symbol, quoted_symbol, symbol, type_of, null_behind}
use Rattle.tokens.proofs.BlobChars.{clash}
use Rattle.tokens.proofs.BlobBack.{blob_once}
use Rattle.tokens.proofs.QuotedMany.{Read, many, characters-many, clob-many}
use Rattle.reader.specs.Grammar.{by_kind, words, braces}
use Rattle.converter.specs.Convert.{replaced, converted, clean}
use Rattle.converter.proofs.Bytes.{gone_same, high_kept}
use Rattle.converter.proofs.Texts.{converted_kept}
use Rattle.converter.proofs.Words.{parts}
use Rattle.converter.proofs.Braces.{blob_carried}
use Rattle.converter.proofs.Characters.{character-converted, character-same}
use Rattle.converter.proofs.CleanRules.{unread, passed, CleanRead, CleanRest, clean-behind, clean_if, clean_on, clean_then, clean-taken, clean_found, kept_clean, high_byte, clean_class, behind-clean, clean-value, clean-starts, strip-clean, own-clean}

-- ---- escapes

hex-clean : (w a : ℕ) (t : List ℕ) → CleanRead t (hex w a t)
unfolding hex hex_value
hex-clean zero a t = passed (λ e. e)
hex-clean (suc w) a [] = unread
hex-clean (suc w) a (c ∷ t) = clean_then (hex_value c) _ (clean-value hex_value (gone_same hex_value (λ c. none) refl) c t) (λ d. hex-clean w (a * 16 + d) t)

scalar-escape-clean : (w : ℕ) (t : List ℕ) → CleanRead t (scalar_escape w t)
unfolding scalar_escape
scalar-escape-clean w t = clean_then (hex w 0 t) _ (hex-clean w 0 t) (λ v. clean_if (is_scalar v.0) (passed (λ e. e)) unread)

letter-clean : (t : List ℕ) → CleanRead t (letter_escape t)
unfolding letter_escape letter
letter-clean [] = unread
letter-clean (c ∷ t) = clean_then (letter c) _ (clean-value letter (gone_same letter (λ c. none) refl) c t) (λ v. passed (λ e. e))

escaped_clean : (t : List ℕ) → CleanRead t (escape t)
unfolding escape
escaped_clean t =
    clean-starts (byte "x") refl t (scalar-escape-clean 2 (drop 1 t))
    (clean-starts (byte "u") refl t (scalar-escape-clean 4 (drop 1 t))
    (clean-starts (byte "U") refl t (scalar-escape-clean 8 (drop 1 t)) (letter-clean t)))

-- ---- characters

-- a raw character is the text's own bytes
raw-own : (is_raw : ℕ → Bool) (t : List ℕ) (v : List ℕ × List ℕ) → raw is_raw t ≡ some v → t ≡ v.0 ++ v.1
unfolding raw
raw-own is_raw [] v e = absurd (clash refl e)
raw-own is_raw (c ∷ t) v e = go (is_raw c && leb 1 n) e
  where
    n : ℕ
    n = char_at (c ∷ t) 0

    go : (b : Bool) → if b (some (take n (c ∷ t), drop n (c ∷ t))) none ≡ some v → c ∷ t ≡ v.0 ++ v.1
    go true i = let z : (take n (c ∷ t), drop n (c ∷ t)) ≡ v = cc in sym (take-append-drop n (c ∷ t)) ∙ ap (λ (p : List ℕ × List ℕ). p.0 ++ p.1) z
    go false i = absurd (clash refl i)

-- so the conversion, which is read as the same character, keeps the text
raw-clean : (c : ℕ) (t : List ℕ) → eqb c (byte "\\") ≡ false → CleanRead (c ∷ t) (raw strict_raw (c ∷ t))
raw-clean c t h = go (replaced c) refl (raw strict_raw (c ∷ t)) refl
  where
    gone : replaced c ≡ true → raw strict_raw (c ∷ t) ≡ none
    gone i = unfold replaced raw in rw (not-true (strict_raw c) (both (old_raw c) _ i).1)

    apart : (u : List ℕ) → character strict_raw (c ∷ u) ≡ raw strict_raw (c ∷ u)
    apart u = unfold character starts in rw h

    go : (b : Bool) → replaced c ≡ b → (o : Option (List ℕ × List ℕ)) → raw strict_raw (c ∷ t) ≡ o → CleanRead (c ∷ t) o
    go b i none e = unread
    go true i (some v) e = absurd (clash (gone i) e)
    go false i (some v) e =
        let k = converted_kept c t i in
        let there = sym (apart (converted t)) ∙ ap (character strict_raw) (sym k) ∙ (character-converted (c ∷ t)).is v ((character-same (c ∷ t)).is v (apart t ∙ e)) in
        passed (own-clean (c ∷ t) v.0 v.1 (raw-own strict_raw (c ∷ t) v e) (k ∙ raw-own strict_raw (c ∷ converted t) (v.0, converted v.1) there))

character-clean : (t : List ℕ) → CleanRead t (character strict_raw t)
unfolding character starts
character-clean [] = unfold raw in unread
character-clean (c ∷ t) = go (eqb c (byte "\\")) refl
  where
    go : (b : Bool) → eqb c (byte "\\") ≡ b → CleanRead (c ∷ t) (if b (escape t) (raw strict_raw (c ∷ t)))
    go true e = clean-behind (kept_clean c t (high_byte (byte "\\") refl c e)) (escaped_clean t)
    go false e = raw-clean c t e

-- ---- quoted text

quote-clean : (q : ℕ) → leb 0x20 q ≡ true → (t : List ℕ) → CleanRest t (quote q t)
unfolding quote
quote-clean q h [] = unread
quote-clean q h (c ∷ t) = clean_class (eqb c q) (high_byte q h c) (passed (λ e. e)) unread

many-clean : (step : List ℕ → Read) → ((t : List ℕ) → CleanRead t (step t)) → (f q : ℕ) → leb 0x20 q ≡ true → (t : List ℕ) → CleanRead t (many step f q t)
unfolding many
many-clean step h zero q l t = unread
many-clean step h (suc f) q l t =
    clean_on (quote q t) _ _ (quote-clean q l t) (λ r. passed (λ e. e)) (clean_then (step t) _ (h t) (λ v. clean_then (many step f q v.1) _ (many-clean step h f q l v.1) (λ vs. passed (λ e. e))))

quoted-clean : (q : ℕ) → leb 0x20 q ≡ true → (t : List ℕ) → CleanRead t (quoted strict_raw q t)
unfolding quoted
quoted-clean q h t = rw (characters-many strict_raw (suc (length t)) q t) (many-clean (character strict_raw) character-clean (suc (length t)) q h t)

pub string-clean : (t : List ℕ) → CleanRead t (string strict_raw t)
unfolding string
string-clean t = clean-starts (byte "\"") refl t (quoted-clean (byte "\"") refl (drop 1 t)) unread

-- ---- clobs and blobs

byte_escape-clean : (t : List ℕ) → CleanRead t (byte_escape t)
unfolding byte_escape
byte_escape-clean t = clean-starts (byte "x") refl t (clean-taken _ (hex 2 0 (drop 1 t)) (hex-clean 2 0 (drop 1 t))) (letter-clean t)

raw_byte_clean : (t : List ℕ) → CleanRead t (raw_byte t)
unfolding raw_byte
raw_byte_clean [] = unread
raw_byte_clean (c ∷ t) = clean_class (leb 0x20 c && leb c 0x7E) (λ e. high_kept c (leb-true 0x20 c (both (leb 0x20 c) _ e).0)) (passed (λ e. e)) unread

clob_byte_clean : (t : List ℕ) → CleanRead t (clob_byte t)
unfolding clob_byte
clob_byte_clean t = clean-starts (byte "\\") refl t (byte_escape-clean (drop 1 t)) (raw_byte_clean t)

clob-clean : (t : List ℕ) → CleanRead t (clob t)
unfolding clob
clob-clean t =
    clean_then (strip (ascii "{{\"") t) _ (strip-clean (ascii "{{\"") refl t) (λ u.
    clean_then (clob_bytes (suc (length u)) u) _ (bytes (suc (length u)) u) (λ v.
    clean_then (strip (ascii "}}") v.1) _ (strip-clean (ascii "}}") refl v.1) (λ r. passed (λ e. e))))
  where
    bytes : (f : ℕ) (u : List ℕ) → CleanRead u (clob_bytes f u)
    bytes f u = rw (clob-many f u) (many-clean clob_byte clob_byte_clean f (byte "\"") refl u)

-- a blob's bytes have one text, so the conversion, which is read as the same bytes, keeps it
blob-clean : (t : List ℕ) → CleanRead t (blob t)
blob-clean t = go (blob t) refl
  where
    go : (o : Option (List ℕ × List ℕ)) → blob t ≡ o → CleanRead t o
    go none e = unread
    go (some v) e = passed (own-clean t (blob_text v.0) v.1 (blob_once t v.0 v.1 e) (blob_once (converted t) v.0 (converted v.1) ((blob_carried t).is v e)))

pub braces-clean : (t : List ℕ) → CleanRead t (braces t)
unfolding braces
braces-clean t = clean_if (starts (byte "\"") (drop 2 t)) (clean-taken _ (clob t) (clob-clean t)) (clean-taken _ (blob t) (blob-clean t))

-- ---- symbols and nulls

pub behind-word-clean : (t : List ℕ) → clean (behind_word t) ≡ true → clean t ≡ true
unfolding behind_word
behind-word-clean = behind-clean parts behind_word (λ c t. refl)

pub symbol-clean : (t : List ℕ) → CleanRead t (symbol strict_raw t)
unfolding symbol quoted_symbol bare_symbol
symbol-clean t =
    clean-starts (byte "'") refl t (clean-taken _ (quoted strict_raw (byte "'") (drop 1 t)) (quoted-clean (byte "'") refl (drop 1 t)))
    (clean_then (word_symbol (kind_of (word t)) (word t)) _ (clean_found _) (λ s. passed (behind-word-clean t)))

null-clean : (t : List ℕ) → CleanRead t (null_behind t)
unfolding null_behind
null-clean t = clean-starts (byte ".") refl t (clean_then (type_of (word (drop 1 t))) _ (clean_found _) (λ k. passed (behind-word-clean (drop 1 t)))) (passed (λ e. e))

pub words-clean : (m : Bool) (t : List ℕ) → CleanRead t (words m t)
unfolding words
words-clean m t = go (kind_of (word t))
  where
    go : (k : Kind) → CleanRead t (by_kind m k t)
    go Null = clean-taken _ (null_behind (behind_word t)) (clean-behind (behind-word-clean t) (null-clean (behind_word t)))
    go True = passed (behind-word-clean t)
    go False = passed (behind-word-clean t)
    go Nan = passed (behind-word-clean t)
    go Marker = clean_if m (passed (behind-word-clean t)) unread
    go (Number n) = passed (behind-word-clean t)
    go Text = passed (behind-word-clean t)
    go Refused = unread
