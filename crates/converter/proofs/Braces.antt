-- Clobs and blobs under the conversion: in one direction, as escapes. Assumes nothing.
use Prim.Native.Nat.{ℕ, zero, suc, ◌/◌, ◌%◌, ◌≤◌, ◌<◌}
use mathlib.Core.Path.{◌≡◌, refl, ap, ◌∙◌}
use mathlib.Core.Bool.{Bool, true, false, ◌&&◌}
use mathlib.Core.List.{List, [], ◌∷◌, ◌++◌}
use mathlib.Core.Option.{Option, none, some}
use native.Mathlib.Omega.{arith}
use lib.Dec.{eqb, leb}
use lib.ListN.{length, drop, get_or}
use Rattle.output.specs.Logic.{if, then, byte, ascii}
use Rattle.text_rules.specs.Texts.{starts, strip}
use Rattle.text_rules.specs.Base64.{alphabet, base64_character, bits24, characters24, base64}
use Rattle.text_rules.specs.Text.{blob_text}
use Rattle.text_rules.specs.Escapes.{hex}
use Rattle.text_rules.proofs.Table.{same}
use Rattle.tokens.specs.Quoted.{quote, byte_escape, raw_byte, clob_byte, clob_bytes, clob}
use Rattle.tokens.specs.Blob.{blob}
use Rattle.tokens.proofs.BlobChars.{clash, then_some}
use Rattle.tokens.proofs.BlobBack.{blob_back, blob_unquoted, blob_once, blob-bytes}
use Rattle.tape.specs.Tree.{Scalar, Node}
use Rattle.reader.specs.Grammar.{taken, braces}
use Rattle.converter.specs.Convert.{replaced, converted, clean}
use Rattle.converter.proofs.Bytes.{gone_same, plain_byte, plain_kept, plain-clean}
use Rattle.converter.proofs.Texts.{converted_kept, converted-append, length_least, clean-append, clean-same}
use Rattle.converter.proofs.Image.{image_then, chosen, started, strip-converted}
use Rattle.converter.proofs.Carried.{Carried, lost, carried_image, carried_then, carried_taken, carried_on, carried_rest}
use Rattle.converter.proofs.Escapes.{quote-converted, hex-converted, letter_carried}

-- ---- clobs

byte_escape_carried : (t : List ℕ) → Carried converted (byte_escape t) (byte_escape (converted t))
unfolding byte_escape
byte_escape_carried t =
    started (Carried converted) (byte "x") refl (λ u. then (hex 2 0 u) (λ v. some (v.0 ∷ [], v.1))) t (carried_image _ (image_then (hex 2 0 (drop 1 t)) _ (hex-converted 2 0 (drop 1 t)) (λ v. refl))) (letter_carried t)

raw_byte_gone : (c : ℕ) → replaced c ≡ true → leb 0x20 c && leb c 0x7E ≡ false
raw_byte_gone = gone_same (λ c. leb 0x20 c && leb c 0x7E) (λ c. false) refl

clob_byte_carried : (t : List ℕ) → Carried converted (clob_byte t) (clob_byte (converted t))
unfolding clob_byte starts raw_byte
clob_byte_carried [] = lost
clob_byte_carried (c ∷ t) = go (replaced c) refl
  where
    slash_gone : (c : ℕ) → replaced c ≡ true → eqb c (byte "\\") ≡ false
    slash_gone = gone_same (λ c. eqb c (byte "\\")) (λ c. false) refl

    go : (b : Bool) → replaced c ≡ b → Carried converted (if (eqb c (byte "\\")) (byte_escape t) (if (leb 0x20 c && leb c 0x7E) (some (c ∷ [], t)) none)) (clob_byte (converted (c ∷ t)))
    go true h = rw (slash_gone c h, raw_byte_gone c h) lost
    go false h = rw (converted_kept c t h) (chosen (Carried converted) (eqb c (byte "\\")) (byte_escape_carried t) (chosen (Carried converted) (leb 0x20 c && leb c 0x7E) (carried_image (some (c ∷ [], t)) refl) lost))

clob-bytes_carried : (f g : ℕ) → f ≤ g → (t : List ℕ) → Carried converted (clob_bytes f t) (clob_bytes g (converted t))
unfolding clob_bytes
clob-bytes_carried zero g l t = lost
clob-bytes_carried (suc f) zero l t = absurd (omega arith)
clob-bytes_carried (suc f) (suc g) l t =
    carried_on (quote (byte "\"") t) _ _ (quote-converted (byte "\"") refl t) (λ r. carried_image (some ([], r)) refl)
    (carried_then (clob_byte t) _ _ (clob_byte_carried t) (λ v. carried_then (clob_bytes f v.1) _ _ (clob-bytes_carried f g (omega arith) v.1) (λ vs. carried_image (some (v.0 ++ vs.0, vs.1)) refl)))

pub clob_carried : (t : List ℕ) → Carried converted (clob t) (clob (converted t))
unfolding clob
clob_carried t =
    carried_rest (strip (ascii "{{\"") t) _ _ (strip-converted (ascii "{{\"") refl t) (λ u.
    carried_then (clob_bytes (suc (length u)) u) _ _ (clob-bytes_carried (suc (length u)) (suc (length (converted u))) (omega (arith, length_least u)) u) (λ v.
    carried_rest (strip (ascii "}}") v.1) _ _ (strip-converted (ascii "}}") refl v.1) (λ r. carried_image (some (v.0, r)) refl)))

-- ---- blobs

char_plain : (v : ℕ) → v < 64 → plain_byte (base64_character v) ≡ true
unfolding base64_character alphabet
char_plain = same (λ v. plain_byte (base64_character v)) (λ v. true) 64 refl

char_kept : (v : ℕ) → v < 64 → replaced (base64_character v) ≡ false
char_kept v l = plain_kept (base64_character v) (char_plain v l)

base64-clean : (s : List ℕ) → ((k : ℕ) → get_or s k 0 < 256) → clean (base64 s) ≡ true
unfolding base64 characters24 clean
base64-clean [] h = refl
base64-clean (a ∷ []) h =
    let n = bits24 a 0 0 in
    rw (char_kept (n / 262144) (omega (arith, h 0)), char_kept (n / 4096 % 64) (omega arith), plain_kept (byte "=") refl)
base64-clean (a ∷ b ∷ []) h =
    let n = bits24 a b 0 in
    rw (char_kept (n / 262144) (omega (arith, h 0, h 1)), char_kept (n / 4096 % 64) (omega arith), char_kept (n / 64 % 64) (omega arith), plain_kept (byte "=") refl)
base64-clean (a ∷ b ∷ c ∷ s) h =
    let n = bits24 a b c in
    rw (char_kept (n / 262144) (omega (arith, h 0, h 1, h 2)), char_kept (n / 4096 % 64) (omega arith), char_kept (n / 64 % 64) (omega arith), char_kept (n % 64) (omega arith)) (base64-clean s (λ k. h (suc (suc (suc k)))))

-- a blob's own bytes stay
blob-same : (t s r : List ℕ) → blob t ≡ some (s, r) → converted t ≡ blob_text s ++ converted r
blob-same t s r e = ap converted (blob_once t s r e) ∙ converted-append (blob_text s) r ∙ ap (λ (u : List ℕ). u ++ converted r) (clean-same (blob_text s) text)
  where
    text : clean (blob_text s) ≡ true
    text = unfold blob_text in clean-append (ascii "{{" ++ base64 s) (ascii "}}") (clean-append (ascii "{{") (base64 s) (plain-clean (ascii "{{") refl) (base64-clean s (blob-bytes t s r e))) (plain-clean (ascii "}}") refl)

pub blob_carried : (t : List ℕ) → Carried converted (blob t) (blob (converted t))
blob_carried t = record { is = λ v e. ap blob (blob-same t v.0 v.1 e) ∙ blob_back v.0 (converted v.1) (blob-bytes t v.0 v.1 e) }

-- ---- both

neither : (b : Bool) → ◌≡◌ {A = Option (List ℕ)} (if b none none) none
neither true = refl
neither false = refl

third : (a b c : ℕ) (t u : List ℕ) → strip (a ∷ b ∷ c ∷ []) t ≡ some u → starts c (drop 2 t) ≡ true
unfolding strip starts
third a b c [] u e = absurd (clash refl e)
third a b c (x ∷ []) u e = absurd (clash (neither (eqb x a)) e)
third a b c (x ∷ y ∷ []) u e = absurd (clash (rw (neither (eqb y b)) (neither (eqb x a))) e)
third a b c (x ∷ y ∷ z ∷ t) u e = go (eqb x a) (eqb y b) (eqb z c) e
  where
    go : (p q r : Bool) → if p (if q (if r (some t) none) none) none ≡ some u → r ≡ true
    go true true true e = refl
    go true true false e = absurd (clash refl e)
    go true false r e = absurd (clash refl e)
    go false q r e = absurd (clash refl e)

-- behind the brackets of a clob stands a quote mark
clob-quoted : (t : List ℕ) (v : List ℕ × List ℕ) → clob t ≡ some v → starts (byte "\"") (drop 2 t) ≡ true
unfolding clob
clob-quoted t v e = let p = then_some (strip (ascii "{{\"") t) _ v e in third (byte "{") (byte "{") (byte "\"") t p.0 p.1

pub braces_carried : (t : List ℕ) → Carried converted (braces t) (braces (converted t))
unfolding braces
braces_carried t = go (starts (byte "\"") (drop 2 t))
  where
    unquoted : (v : List ℕ × List ℕ) → blob t ≡ some v → starts (byte "\"") (drop 2 (converted t)) ≡ false
    unquoted v e = rw (blob-same t v.0 v.1 e) (blob_unquoted v.0 (converted v.1) (blob-bytes t v.0 v.1 e))

    go : (b : Bool) → Carried converted (if b (taken (λ s. Node.scalar (Scalar.clob s)) (clob t)) (taken (λ s. Node.scalar (Scalar.blob s)) (blob t))) (braces (converted t))
    go true = record { is = λ v e. let p = then_some (clob t) _ v e in rw (clob-quoted (converted t) _ ((clob_carried t).is p.0 p.1)) ((carried_taken (clob t) _ (clob_carried t)).is v e) }
    go false = record { is = λ v e. let p = then_some (blob t) _ v e in rw (unquoted p.0 p.1) ((carried_taken (blob t) _ (blob_carried t)).is v e) }
