-- What the tokens mean is well-formed, if its bytes are not too many. Assumes nothing.
use Prim.Native.Nat.{ℕ, zero, suc, ◌^◌, ◌≤◌, ◌<◌}
use mathlib.Core.Path.{◌≡◌, refl, sym, ◌∙◌}
use mathlib.Core.List.{List, [], ◌∷◌, ◌++◌}
use mathlib.Core.Bool.{Bool, true, false, ◌&&◌}
use mathlib.Core.Option.{Option, none, some}
use native.Mathlib.Omega.{arith}
use native.Mathlib.Decide.{dec_lt}
use lib.Dec.{leb, ltb}
use lib.Ieee.{Float, nan, inf, fin}
use lib.ListN.{length, drop, length-append}
use borrow.Author.Tests.{leb-true, ltb-true, lt-leb, le-leb, ne_eqb, le-ltb}
use Rattle.output.specs.Logic.{if, then, or, byte, ascii}
use Rattle.output.specs.Wrote.{le_bytes}
use Rattle.text_rules.specs.Digits.{is_digit, number, whole}
use Rattle.text_rules.specs.Texts.{starts, same}
use Rattle.text_rules.specs.Words.{is_start, is_part, word, behind_word, is_identifier, resembles_version_marker, resembles_symbol_id, symbol_id, kind_of}
use Rattle.text_rules.specs.Utf8.{lead_of, is_cont, ok2, ok3, ok4}
use Rattle.text_rules.specs.Text.{Sym}
use Rattle.text_rules.specs.declared.words.Kind.{Kind}
use Rattle.text_rules.specs.declared.words.Kind.TheVariants.{Null, True, False, Nan, Marker, Number, Text, Refused}
use Rattle.tokens.specs.Quoted.{character, quoted, string, clob}
use Rattle.tokens.specs.Blob.{blob}
use Rattle.tokens.specs.Token.{word_symbol, bare_symbol, quoted_symbol, symbol, type_of, null_behind}
use Rattle.numbers.specs.Timestamp.{well_formed}
use Rattle.numbers.specs.Numeral.{Numeral, numeral}
use Rattle.numbers.specs.TimestampRead.{timestamp}
use Rattle.floats.specs.Float.{float}
use Rattle.floats.proofs.FloatOnce.{float_once, float-whole}
use Rattle.tape.specs.Tree.{Scalar, sized, encode_sym, encode_scalar}
use Rattle.tape.specs.Fine.{Bytes, FineText, FineFloat, FineScalar}
use Rattle.reader.specs.Grammar.{taken}
use Rattle.text_rules.proofs.DigitLaws.{never}
use Rattle.text_rules.proofs.Utf8Chars.{and_left, and_second, and-third}
use Rattle.text_rules.proofs.Utf8View.{Char, one, two, three, four, valid_char, ascii_char}
use Rattle.text_rules.proofs.WordsBack.{word-all}
use Rattle.text_rules.proofs.WordsLaws.{behind-word}
use Rattle.tokens.proofs.QuotedMany.{characters-many}
use Rattle.tokens.proofs.Utf8Back.{many-all, character_char, valid-nothing, quoted-valid, clob-bytes}
use Rattle.tokens.proofs.BlobBack.{blob-bytes}
use Rattle.numbers.proofs.DecimalBack.{decimal_range, int_range}
use Rattle.numbers.proofs.TimestampBack.{timestamp_well}
use Rattle.tape.proofs.Reading.{if_all}
use Rattle.claims.specs.InRange.{Got, got-none, got, IsText, SymInRange, NumeralInRange}

-- ---- what holds of what was read, if anything was

pub told : {A : Type 0} {P : A → Type 0} {v : A × List ℕ} → Got P (some v) → P v.0
told (got p) = p

pub got_of : {A : Type 0} (P : A → Type 0) (o : Option (A × List ℕ)) → ((a : A) (r : List ℕ) → o ≡ some (a, r) → P a) → Got P o
got_of P none f = got-none
got_of P (some v) f = got (f v.0 v.1 refl)

pub got_then : {A B : Type 0} (P : A → Type 0) (Q : B → Type 0) (o : Option (A × List ℕ)) (g : A × List ℕ → Option (B × List ℕ)) → Got P o → ((v : A × List ℕ) → P v.0 → Got Q (g v)) → Got Q (then o g)
got_then P Q none g h f = got-none
got_then P Q (some v) g (got p) f = f v p

pub got-after : {A B : Type 0} (Q : B → Type 0) (o : Option A) (g : A → Option (B × List ℕ)) → ((a : A) → Got Q (g a)) → Got Q (then o g)
got-after Q none g f = got-none
got-after Q (some a) g f = f a

pub got-taken : {A B : Type 0} (P : A → Type 0) (Q : B → Type 0) (f : A → B) → ((a : A) → P a → Q (f a)) → (o : Option (A × List ℕ)) → Got P o → Got Q (taken f o)
got-taken P Q f h none g = got-none
got-taken P Q f h (some v) (got p) = got (h v.0 p)

pub got_or : {A : Type 0} {P : A → Type 0} (o p : Option (A × List ℕ)) → Got P o → Got P p → Got P (or o p)
got_or none p g h = h
got_or (some v) p g h = g

-- ---- bytes

bytes-append : (v y : List ℕ) → Bytes v → Bytes y → Bytes (v ++ y)
bytes-append [] y b c k = c k
bytes-append (a ∷ v) y b c zero = b 0
bytes-append (a ∷ v) y b c (suc k) = bytes-append v y (λ j. b (suc j)) c k

pub bytes-none : Bytes []
bytes-none k = omega arith

pub bytes_more : (a : ℕ) (l : List ℕ) → a < 256 → Bytes l → Bytes (a ∷ l)
bytes_more a l h b zero = h
bytes_more a l h b (suc k) = b k

-- ---- the bytes of characters

lead-small : (a : ℕ) → 256 ≤ a → lead_of a ≡ 0
unfolding lead_of
lead-small a h = rw (le-ltb a 0x80 (omega arith), le-ltb a 0xC0 (omega arith), le-ltb a 0xE0 (omega arith), le-ltb a 0xF0 (omega arith), le-ltb a 0xF8 (omega arith))

lead_byte : (a n : ℕ) → lead_of a ≡ suc n → a < 256
lead_byte a n e = go (dec_lt a 256)
  where
    go : Dec (a < 256) → a < 256
    go (yes h) = h
    go (no h) = absurd (let z = lead-small a (omega arith) in omega arith)

cont_byte : (b : ℕ) → is_cont b ≡ true → b < 256
unfolding is_cont
cont_byte b e = go (leb 0x80 b) (ltb b 0xC0) refl e
  where
    go : (p q : Bool) → ltb b 0xC0 ≡ q → p && q ≡ true → b < 256
    go p true h k = let l = ltb-true b 0xC0 h in omega arith
    go true false h k = never (sym k)
    go false false h k = never (sym k)

char_bytes : {x : List ℕ} → Char x → Bytes x
unfolding ok2 ok3 ok4
char_bytes (one a e) = bytes_more a [] (lead_byte a 0 e) bytes-none
char_bytes (two a b e o) = bytes_more a (b ∷ []) (lead_byte a 1 e) (bytes_more b [] (cont_byte b (and_left (is_cont b) _ o)) bytes-none)
char_bytes (three a b c e o) =
    bytes_more a (b ∷ c ∷ []) (lead_byte a 2 e)
    (bytes_more b (c ∷ []) (cont_byte b (and_left (is_cont b) _ o)) (bytes_more c [] (cont_byte c (and_second (is_cont b) (is_cont c) _ o)) bytes-none))
char_bytes (four a b c d e o) =
    bytes_more a (b ∷ c ∷ d ∷ []) (lead_byte a 3 e)
    (bytes_more b (c ∷ d ∷ []) (cont_byte b (and_left (is_cont b) _ o))
    (bytes_more c (d ∷ []) (cont_byte c (and_second (is_cont b) (is_cont c) _ o)) (bytes_more d [] (cont_byte d (and-third (is_cont b) (is_cont c) (is_cont d) _ o)) bytes-none)))

-- ---- text: UTF-8, and bytes

-- By any raw rule.
module _ (is_raw : ℕ → Bool) where
  quoted-bytes : (q : ℕ) (t x r : List ℕ) → quoted is_raw q t ≡ some (x, r) → Bytes x
  unfolding quoted
  quoted-bytes q t x r e =
      many-all (character is_raw) Bytes bytes-none (λ t v u y s h. bytes-append v y (char_bytes (character_char is_raw t v u s)) h)
      (suc (length t)) q t x r (sym (characters-many is_raw (suc (length t)) q t) ∙ e)

  quoted_text : (q : ℕ) (t : List ℕ) → Got IsText (quoted is_raw q t)
  quoted_text q t = got_of IsText (quoted is_raw q t) (λ x r e. record { bytes = quoted-bytes q t x r e; utf8 = quoted-valid is_raw q t x r e })

  pub string-text : (t : List ℕ) → Got IsText (string is_raw t)
  unfolding string
  string-text t = if_all (Got IsText) {b = starts (byte "\"") t} (λ _. quoted_text (byte "\"") (drop 1 t)) (λ _. got-none)

part_low : (c : ℕ) → is_part c ≡ true → c < 128
part_low c h = go (dec_lt c 128)
  where
    high : 128 ≤ c → is_part c ≡ false
    high k =
        unfold is_part is_start is_digit in
        rw (
          ne_eqb c 36 (λ q. omega arith),
          ne_eqb c 95 (λ q. omega arith),
          le-leb 65 c (omega arith),
          lt-leb c 90 (omega arith),
          le-leb 97 c (omega arith),
          lt-leb c 122 (omega arith),
          le-leb 48 c (omega arith),
          lt-leb c 57 (omega arith),
        )

    go : Dec (c < 128) → c < 128
    go (yes l) = l
    go (no l) = never (sym h ∙ high (omega arith))

ascii_text : (w : List ℕ) → behind_word w ≡ [] → IsText w
ascii_text w h = word-all IsText record { bytes = bytes-none; utf8 = valid-nothing } more w h
  where
    more : (c : ℕ) (v : List ℕ) → is_part c ≡ true → IsText v → IsText (c ∷ v)
    more c v e i = let l = part_low c e in record { bytes = bytes_more c v (omega arith) i.bytes; utf8 = valid_char (ascii_char c l) v ∙ i.utf8 }

-- ---- lengths

sized_long : (s : List ℕ) → length s ≤ length (sized s)
unfolding sized
sized_long s = omega (arith, length-append (le_bytes 4 (length s)) s)

pub text_fine : (s : List ℕ) → IsText s → length s < 2 ^ 32 → FineText s
text_fine s t h = record { plain = record { bytes = t.bytes; short = h }; utf8 = t.utf8 }

-- ---- symbols

pub text_sym : (s : List ℕ) → IsText s → SymInRange (Sym.text s)
unfolding encode_sym
text_sym s t h = text_fine s t (omega (arith, sized_long s))

-- the number of a symbol fits
abbrev pub KindP : Kind → Type 0
KindP (Number n) = n < 2 ^ 32
KindP Null = Unit
KindP True = Unit
KindP False = Unit
KindP Nan = Unit
KindP Marker = Unit
KindP Text = Unit
KindP Refused = Unit

id_kind : (ds : List ℕ) → KindP (symbol_id ds)
unfolding symbol_id
id_kind ds = go (whole ds) (leb (number 0 ds) 4_294_967_295) refl
  where
    go : (p q : Bool) → leb (number 0 ds) 4_294_967_295 ≡ q → KindP (if (p && q) (Number (number 0 ds)) Refused)
    go true true h = let l = leb-true (number 0 ds) 4_294_967_295 h in omega arith
    go true false h = tt
    go false q h = tt

pub kind_fits : (w : List ℕ) → KindP (kind_of w)
unfolding kind_of
kind_fits w =
    if_all KindP {b = same (ascii "null") w} (λ _. tt) (λ _.
    if_all KindP {b = same (ascii "true") w} (λ _. tt) (λ _.
    if_all KindP {b = same (ascii "false") w} (λ _. tt) (λ _.
    if_all KindP {b = same (ascii "nan") w} (λ _. tt) (λ _.
    if_all KindP {b = resembles_version_marker w} (λ _. if_all KindP {b = same (ascii "$ion_1_0") w} (λ _. tt) (λ _. tt)) (λ _.
    if_all KindP {b = resembles_symbol_id w} (λ _. id_kind (drop 1 w)) (λ _.
    if_all KindP {b = is_identifier w} (λ _. tt) (λ _. tt)))))))

pub word_text : (t : List ℕ) → IsText (word t)
word_text t = ascii_text (word t) (behind-word t)

bare_got : (t : List ℕ) → Got SymInRange (bare_symbol t)
unfolding bare_symbol
bare_got t = go (kind_of (word t)) (kind_fits (word t))
  where
    go : (k : Kind) → KindP k → Got SymInRange (then (word_symbol k (word t)) (λ s. some (s, behind_word t)))
    go Text h = got (text_sym (word t) (word_text t))
    go (Number n) h = got (λ _. h)
    go Null h = got-none
    go True h = got-none
    go False h = got-none
    go Nan h = got-none
    go Marker h = got-none
    go Refused h = got-none

quoted-got : (is_raw : ℕ → Bool) (t : List ℕ) → Got SymInRange (quoted_symbol is_raw t)
unfolding quoted_symbol
quoted-got is_raw t = got-taken IsText SymInRange Sym.text text_sym (quoted is_raw (byte "'") t) (quoted_text is_raw (byte "'") t)

pub symbol-got : (is_raw : ℕ → Bool) (t : List ℕ) → Got SymInRange (symbol is_raw t)
unfolding symbol
symbol-got is_raw t = if_all (Got SymInRange) {b = starts (byte "'") t} (λ _. quoted-got is_raw (drop 1 t)) (λ _. bare_got t)

-- ---- scalars

abbrev pub ScalarP : Scalar → Type 0
ScalarP s = length (encode_scalar s) < 2 ^ 32 → FineScalar s

pub symbol-scalar : (s : Sym) → SymInRange s → ScalarP (Scalar.symbol s)
unfolding encode_scalar
symbol-scalar s h l = h l

pub string-scalar : (s : List ℕ) → IsText s → ScalarP (Scalar.string s)
unfolding encode_scalar
string-scalar s t l = text_fine s t (omega (arith, sized_long s))

pub clob-scalar : (s : List ℕ) → Bytes s → ScalarP (Scalar.clob s)
unfolding encode_scalar
clob-scalar s b l = record { bytes = b; short = omega (arith, sized_long s) }

pub clob-got : (t : List ℕ) → Got Bytes (clob t)
clob-got t = got_of Bytes (clob t) (clob-bytes t)

pub blob-scalar : (s : List ℕ) → Bytes s → ScalarP (Scalar.blob s)
unfolding encode_scalar
blob-scalar s b l = record { bytes = b; short = omega (arith, sized_long s) }

pub blob-got : (t : List ℕ) → Got Bytes (blob t)
blob-got t = got_of Bytes (blob t) (blob-bytes t)

-- the type of a null is 12 at most
abbrev Type12 : Option ℕ → Type 0
Type12 none = Unit
Type12 (some k) = k ≤ 12

type_small : (w : List ℕ) → Type12 (type_of w)
unfolding type_of
type_small w =
    if_all Type12 {b = same (ascii "bool") w} (λ _. omega arith) (λ _.
    if_all Type12 {b = same (ascii "int") w} (λ _. omega arith) (λ _.
    if_all Type12 {b = same (ascii "float") w} (λ _. omega arith) (λ _.
    if_all Type12 {b = same (ascii "decimal") w} (λ _. omega arith) (λ _.
    if_all Type12 {b = same (ascii "timestamp") w} (λ _. omega arith) (λ _.
    if_all Type12 {b = same (ascii "symbol") w} (λ _. omega arith) (λ _.
    if_all Type12 {b = same (ascii "string") w} (λ _. omega arith) (λ _.
    if_all Type12 {b = same (ascii "clob") w} (λ _. omega arith) (λ _.
    if_all Type12 {b = same (ascii "blob") w} (λ _. omega arith) (λ _.
    if_all Type12 {b = same (ascii "list") w} (λ _. omega arith) (λ _.
    if_all Type12 {b = same (ascii "sexp") w} (λ _. omega arith) (λ _.
    if_all Type12 {b = same (ascii "struct") w} (λ _. omega arith) (λ _. tt))))))))))))

pub null_got : (t : List ℕ) → Got (λ k. k ≤ 12) (null_behind t)
unfolding null_behind
null_got t = if_all (Got (λ k. k ≤ 12)) {b = starts (byte ".") t} (λ _. go (type_of (word (drop 1 t))) (type_small (word (drop 1 t)))) (λ _. got (omega arith))
  where
    go : (o : Option ℕ) → Type12 o → Got (λ k. k ≤ 12) (then o (λ k. some (k, behind_word (drop 1 t))))
    go none h = got-none
    go (some k) h = got h

-- what a float's text means is well-formed
pub float_got : (t : List ℕ) → Got FineFloat (float t)
float_got t = got_of FineFloat (float t) go
  where
    go : (x : Float) (r : List ℕ) → float t ≡ some (x, r) → FineFloat x
    go nan r e = tt
    go (inf s) r e = tt
    go (fin s m d) r e = ((float_once t (fin s m d) r e).1, float-whole t s m d r e)

pub timestamp-got : (t : List ℕ) → Got (λ x. well_formed x ≡ true) (timestamp t)
timestamp-got t = got_of (λ x. well_formed x ≡ true) (timestamp t) (timestamp_well t)

pub numeral-got : (t : List ℕ) → Got NumeralInRange (numeral t)
numeral-got t = got_of NumeralInRange (numeral t) go
  where
    go : (a : Numeral) (r : List ℕ) → numeral t ≡ some (a, r) → NumeralInRange a
    go (Numeral.int z) r e = int_range t r z e
    go (Numeral.decimal neg m x) r e = decimal_range t r neg m x e
