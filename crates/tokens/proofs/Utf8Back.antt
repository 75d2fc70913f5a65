-- What reading gives, of any text: quoted text is valid UTF-8, and a clob is bytes below 256. Assumes nothing.
use Prim.Native.Nat.{ℕ, zero, suc, ◌+◌, ◌*◌, ◌^◌, ◌≤◌, ◌<◌}
use mathlib.Core.Path.{◌≡◌, refl, sym, ap, subst, ◌∙◌}
use mathlib.Core.Bool.{Bool, true, false, ◌&&◌}
use mathlib.Core.List.{List, [], ◌∷◌, ◌++◌}
use mathlib.Core.Option.{Option, none, some}
use native.Mathlib.Nat.{mul_assoc, pow-succ'}
use native.Mathlib.Decide.{dec_le}
use native.Mathlib.Omega.{arith}
use lib.Dec.{leb, ltb}
use lib.ListN.{length, take, drop, get_or}
use lib.Seq.{take-append_seam}
use borrow.Author.Tests.{ne_eqb, le-leb, lt-leb, ltb-true, leb-true}
use Rattle.output.specs.Logic.{if, then, on, byte, ascii}
use Rattle.text_rules.specs.Texts.{starts, strip}
use Rattle.text_rules.specs.Utf8.{char_at, is_scalar, after, valid, utf8}
use Rattle.text_rules.specs.Escapes.{letter, hex_value, hex}
use Rattle.tokens.specs.Quoted.{quote, scalar_escape, letter_escape, escape, raw, character, quoted, byte_escape, raw_byte, clob_byte, clob_bytes, clob}
use Rattle.text_rules.proofs.Table.{same}
use Rattle.text_rules.proofs.Utf8View.{Char, char-at, valid_char, View, view, utf8_char, ascii_char}
use Rattle.tokens.proofs.QuotedMany.{Read, prefix, many, characters-many, clob-many}

-- the bytes that were read
abbrev got : Read → List ℕ
got none = []
got (some v) = v.0

-- ---- what holds of nothing, and of a piece before what it holds of, holds of all that is read

module _ (step : List ℕ → Read) (P : List ℕ → Type 0) (nothing : P []) (piece : (t v u y : List ℕ) → step t ≡ some (v, u) → P y → P (v ++ y)) where
  pub many-all : (f q : ℕ) (t x r : List ℕ) → many step f q t ≡ some (x, r) → P x
  unfolding many
  many-all zero q t x r e = absurd (let z : ◌≡◌ {A = ℕ} 0 1 = cc in omega arith)
  many-all (suc f) q t x r e = go (quote q t) (step t) refl e (λ u y r h. many-all f q u y r h)
    where
      More : Type 0
      More = (u y r : List ℕ) → many step f q u ≡ some (y, r) → P y

      rest : (v u : List ℕ) → step t ≡ some (v, u) → (o : Read) → many step f q u ≡ o → then o (prefix v) ≡ some (x, r) → More → P x
      rest v u s none m e more = absurd (let z : ◌≡◌ {A = ℕ} 0 1 = cc in omega arith)
      rest v u s (some w) m e more = subst P (ap got e) (piece t v u w.0 s (more u w.0 w.1 m))

      go : (o : Option (List ℕ)) (s : Read) → step t ≡ s → on o (λ r. some ([], r)) (then s (λ v. then (many step f q v.1) (prefix v.0))) ≡ some (x, r) → More → P x
      go (some u) s h e more = subst P (ap got e) nothing
      go none none h e more = absurd (let z : ◌≡◌ {A = ℕ} 0 1 = cc in omega arith)
      go none (some v) h e more = rest v.0 v.1 h (many step f q v.1) refl e more

-- ---- letters and hex digits stand for small numbers

-- nothing, or a number below n
abbrev small : ℕ → Option ℕ → Bool
small n none = true
small n (some v) = ltb v n

small-some : (n : ℕ) (o : Option ℕ) (v : ℕ) → small n o ≡ true → o ≡ some v → v < n
small-some n o v s e = ltb-true v n (sym (ap (small n) e) ∙ s)

low-letter : (c : ℕ) → c < 128 → small 128 (letter c) ≡ true
unfolding letter
low-letter = same (λ c. small 128 (letter c)) (λ c. true) 128 refl

high_letter : (c : ℕ) → 128 ≤ c → letter c ≡ none
unfolding letter
high_letter c h = rw (ne_eqb c (byte "0") (λ e. omega arith), ne_eqb c (byte "a") (λ e. omega arith), ne_eqb c (byte "b") (λ e. omega arith), ne_eqb c (byte "t") (λ e. omega arith), ne_eqb c (byte "n") (λ e. omega arith), ne_eqb c (byte "v") (λ e. omega arith), ne_eqb c (byte "f") (λ e. omega arith), ne_eqb c (byte "r") (λ e. omega arith), ne_eqb c (byte "\\") (λ e. omega arith), ne_eqb c (byte "\"") (λ e. omega arith), ne_eqb c (byte "'") (λ e. omega arith), ne_eqb c (byte "/") (λ e. omega arith), ne_eqb c (byte "?") (λ e. omega arith))

low-hex : (c : ℕ) → c < 128 → small 16 (hex_value c) ≡ true
unfolding hex_value
low-hex = same (λ c. small 16 (hex_value c)) (λ c. true) 128 refl

high_hex : (c : ℕ) → 128 ≤ c → hex_value c ≡ none
unfolding hex_value
high_hex c h = rw (le-leb (byte "0") c (omega arith), lt-leb c (byte "9") (omega arith), le-leb (byte "a") c (omega arith), lt-leb c (byte "f") (omega arith), le-leb (byte "A") c (omega arith), lt-leb c (byte "F") (omega arith))

-- a rule that gives nothing above 127, and small numbers below
small_all : (n : ℕ) (f : ℕ → Option ℕ) → ((c : ℕ) → c < 128 → small n (f c) ≡ true) → ((c : ℕ) → 128 ≤ c → f c ≡ none) → (c v : ℕ) → f c ≡ some v → v < n
small_all n f low high c v e = small-some n (f c) v (go (dec_le 128 c)) e
  where
    go : Dec (128 ≤ c) → small n (f c) ≡ true
    go (no h) = low c (omega arith)
    go (yes h) = ap (small n) (high c h)

letter-small : (c v : ℕ) → letter c ≡ some v → v < 128
letter-small = small_all 128 letter low-letter high_letter

hex-small : (c v : ℕ) → hex_value c ≡ some v → v < 16
hex-small = small_all 16 hex_value low-hex high_hex

-- an escape by a letter is one byte below 128
letter_one : (t x u : List ℕ) → letter_escape t ≡ some (x, u) → (v : ℕ) × (x ≡ v ∷ []) × (v < 128)
unfolding letter_escape
letter_one [] x u e = absurd (let z : ◌≡◌ {A = ℕ} 0 1 = cc in omega arith)
letter_one (c ∷ t) x u e = go (letter c) refl e
  where
    go : (o : Option ℕ) → letter c ≡ o → then {B = List ℕ × List ℕ} o (λ v. some (v ∷ [], t)) ≡ some (x, u) → (v : ℕ) × (x ≡ v ∷ []) × (v < 128)
    go none h e = absurd (let z : ◌≡◌ {A = ℕ} 0 1 = cc in omega arith)
    go (some v) h e = (v, sym (ap got e), letter-small c v h)

-- ---- quoted text

letter_char : (t x u : List ℕ) → letter_escape t ≡ some (x, u) → Char x
letter_char t x u e = let l = letter_one t x u e in subst Char (sym l.1) (ascii_char l.0 l.2)

scalar_char : (w : ℕ) (t x u : List ℕ) → scalar_escape w t ≡ some (x, u) → Char x
unfolding scalar_escape
scalar_char w t x u e = go (hex w 0 t) e
  where
    two : (v : ℕ) (r : List ℕ) (p : Bool) → is_scalar v ≡ p → if {A = Read} p (some (utf8 v, r)) none ≡ some (x, u) → Char x
    two v r true s e = subst Char (ap got e) (utf8_char v s)
    two v r false s e = absurd (let z : ◌≡◌ {A = ℕ} 0 1 = cc in omega arith)

    go : (o : Option (ℕ × List ℕ)) → then {B = List ℕ × List ℕ} o (λ v. if (is_scalar v.0) (some (utf8 v.0, v.1)) none) ≡ some (x, u) → Char x
    go none e = absurd (let z : ◌≡◌ {A = ℕ} 0 1 = cc in omega arith)
    go (some v) e = two v.0 v.1 (is_scalar v.0) refl e

-- a raw character is one
raw_char : (is_raw : ℕ → Bool) (t x u : List ℕ) → raw is_raw t ≡ some (x, u) → Char x
unfolding raw
raw_char is_raw [] x u e = absurd (let z : ◌≡◌ {A = ℕ} 0 1 = cc in omega arith)
raw_char is_raw (c ∷ t) x u e = go (is_raw c) (leb 1 n) refl e
  where
    n : ℕ
    n = char_at (c ∷ t) 0

    whole : (v : View (c ∷ t)) → Char (take n (c ∷ t))
    whole v =
        let k : n ≡ length v.char = ap (λ (s : List ℕ). char_at s 0) v.is ∙ char-at v.good v.rest in
        let e : take n (c ∷ t) ≡ v.char = ap (λ (j : ℕ). take j (c ∷ t)) k ∙ ap (take (length v.char)) v.is ∙ take-append_seam v.char v.rest in
        subst Char (sym e) v.good

    go : (p q : Bool) → leb 1 n ≡ q → if {A = Read} (p && q) (some (take n (c ∷ t), drop n (c ∷ t))) none ≡ some (x, u) → Char x
    go true true h e = subst Char (ap got e) (whole (view c t (leb-true 1 n h)))
    go true false h e = absurd (let z : ◌≡◌ {A = ℕ} 0 1 = cc in omega arith)
    go false q h e = absurd (let z : ◌≡◌ {A = ℕ} 0 1 = cc in omega arith)

escape_char : (t x u : List ℕ) → escape t ≡ some (x, u) → Char x
unfolding escape
escape_char t x u e = go (starts (byte "x") t) (starts (byte "u") t) (starts (byte "U") t) e
  where
    go : (p q r : Bool) → if p (scalar_escape 2 (drop 1 t)) (if q (scalar_escape 4 (drop 1 t)) (if r (scalar_escape 8 (drop 1 t)) (letter_escape t))) ≡ some (x, u) → Char x
    go true q r e = scalar_char 2 (drop 1 t) x u e
    go false true r e = scalar_char 4 (drop 1 t) x u e
    go false false true e = scalar_char 8 (drop 1 t) x u e
    go false false false e = letter_char t x u e

-- what is read as one character is the UTF-8 of one
pub character_char : (is_raw : ℕ → Bool) (t x u : List ℕ) → character is_raw t ≡ some (x, u) → Char x
unfolding character
character_char is_raw t x u e = go (starts (byte "\\") t) e
  where
    go : (p : Bool) → if p (escape (drop 1 t)) (raw is_raw t) ≡ some (x, u) → Char x
    go true e = escape_char (drop 1 t) x u e
    go false e = raw_char is_raw t x u e

pub valid-character : (is_raw : ℕ → Bool) (t x u : List ℕ) → character is_raw t ≡ some (x, u) → (s : List ℕ) → valid (x ++ s) ≡ valid s
valid-character is_raw t x u e s = valid_char (character_char is_raw t x u e) s

pub valid-nothing : valid [] ≡ true
unfolding valid after
valid-nothing = refl

pub quoted-valid : (is_raw : ℕ → Bool) (q : ℕ) (t x r : List ℕ) → quoted is_raw q t ≡ some (x, r) → valid x ≡ true
unfolding quoted
quoted-valid is_raw q t x r e =
    many-all (character is_raw) (λ x. valid x ≡ true) valid-nothing (λ t v u y s h. valid-character is_raw t v u s y ∙ h)
    (suc (length t)) q t x r (sym (characters-many is_raw (suc (length t)) q t) ∙ e)

-- ---- clobs

-- every byte of a list is below 256; past its end stands 0
abbrev pub Bytes : List ℕ → Type 0
Bytes s = (k : ℕ) → get_or s k 0 < 256

pub bytes-append : (v y : List ℕ) → Bytes v → Bytes y → Bytes (v ++ y)
bytes-append [] y b c k = c k
bytes-append (a ∷ v) y b c zero = b 0
bytes-append (a ∷ v) y b c (suc k) = bytes-append v y (λ j. b (suc j)) c k

pub bytes_one : (a : ℕ) → a < 256 → Bytes (a ∷ [])
bytes_one a h zero = h
bytes_one a h (suc k) = omega arith

letter-bytes : (t x u : List ℕ) → letter_escape t ≡ some (x, u) → Bytes x
letter-bytes t x u e = let l = letter_one t x u e in subst Bytes (sym l.1) (bytes_one l.0 (omega (arith, l.2)))

-- the number that hex digits name
hex_bound : (w a b : ℕ) (t : List ℕ) (v : ℕ) (u : List ℕ) → a < b → hex w a t ≡ some (v, u) → v < b * 16 ^ w
unfolding hex
hex_bound zero a b t v u l e = let z : a ≡ v = ap (λ (o : Option (ℕ × List ℕ)). on o (λ p. p.0) 0) e in omega arith
hex_bound (suc w) a b [] v u l e = absurd (let z : ◌≡◌ {A = ℕ} 0 1 = cc in omega arith)
hex_bound (suc w) a b (c ∷ t) v u l e = go (hex_value c) refl e (λ a b l h. hex_bound w a b t v u l h)
  where
    go : (o : Option ℕ) → hex_value c ≡ o → then o (λ d. hex w (a * 16 + d) t) ≡ some (v, u) → ((a b : ℕ) → a < b → hex w a t ≡ some (v, u) → v < b * 16 ^ w) → v < b * 16 ^ suc w
    go none h e more = absurd (let z : ◌≡◌ {A = ℕ} 0 1 = cc in omega arith)
    go (some d) h e more =
        let s = hex-small c d h in
        let k : b * 16 * 16 ^ w ≡ b * 16 ^ suc w = mul_assoc b 16 (16 ^ w) ∙ ap (λ (n : ℕ). b * n) (sym (pow-succ' 16 w)) in
        rw (sym k) (more (a * 16 + d) (b * 16) (omega arith) e)

escape-bytes : (t x u : List ℕ) → byte_escape t ≡ some (x, u) → Bytes x
unfolding byte_escape
escape-bytes t x u e = go (starts (byte "x") t) e
  where
    digits : (o : Option (ℕ × List ℕ)) → hex 2 0 (drop 1 t) ≡ o → then {B = List ℕ × List ℕ} o (λ v. some (v.0 ∷ [], v.1)) ≡ some (x, u) → Bytes x
    digits none h e = absurd (let z : ◌≡◌ {A = ℕ} 0 1 = cc in omega arith)
    digits (some v) h e = subst Bytes (ap got e) (bytes_one v.0 (hex_bound 2 0 1 (drop 1 t) v.0 v.1 (omega arith) h))

    go : (p : Bool) → if {A = Read} p (then (hex 2 0 (drop 1 t)) (λ v. some (v.0 ∷ [], v.1))) (letter_escape t) ≡ some (x, u) → Bytes x
    go true e = digits (hex 2 0 (drop 1 t)) refl e
    go false e = letter-bytes t x u e

raw-bytes : (t x u : List ℕ) → raw_byte t ≡ some (x, u) → Bytes x
unfolding raw_byte
raw-bytes [] x u e = absurd (let z : ◌≡◌ {A = ℕ} 0 1 = cc in omega arith)
raw-bytes (c ∷ t) x u e = go (leb 0x20 c) (leb c 0x7E) refl e
  where
    go : (p q : Bool) → leb c 0x7E ≡ q → if {A = Read} (p && q) (some (c ∷ [], t)) none ≡ some (x, u) → Bytes x
    go true true h e = subst Bytes (ap got e) (bytes_one c (omega (arith, leb-true c 0x7E h)))
    go true false h e = absurd (let z : ◌≡◌ {A = ℕ} 0 1 = cc in omega arith)
    go false q h e = absurd (let z : ◌≡◌ {A = ℕ} 0 1 = cc in omega arith)

pub byte_bytes : (t x u : List ℕ) → clob_byte t ≡ some (x, u) → Bytes x
unfolding clob_byte
byte_bytes t x u e = go (starts (byte "\\") t) e
  where
    go : (p : Bool) → if p (byte_escape (drop 1 t)) (raw_byte t) ≡ some (x, u) → Bytes x
    go true e = escape-bytes (drop 1 t) x u e
    go false e = raw-bytes t x u e

pub clob-bytes : (t x r : List ℕ) → clob t ≡ some (x, r) → Bytes x
unfolding clob
clob-bytes t x r e = begin (strip (ascii "{{\"") t) e
  where
    within : (f : ℕ) (u y v : List ℕ) → clob_bytes f u ≡ some (y, v) → Bytes y
    within f u y v e = many-all clob_byte Bytes (λ k. omega arith) (λ t v u y s h. bytes-append v y (byte_bytes t v u s) h) f (byte "\"") u y v (sym (clob-many f u) ∙ e)

    close : (y : List ℕ) (o : Option (List ℕ)) → then {B = List ℕ × List ℕ} o (λ r. some (y, r)) ≡ some (x, r) → Bytes y → Bytes x
    close y none e b = absurd (let z : ◌≡◌ {A = ℕ} 0 1 = cc in omega arith)
    close y (some s) e b = subst Bytes (ap got e) b

    body : (u : List ℕ) (o : Read) → clob_bytes (suc (length u)) u ≡ o → then {B = List ℕ × List ℕ} o (λ v. then (strip (ascii "}}") v.1) (λ r. some (v.0, r))) ≡ some (x, r) → Bytes x
    body u none h e = absurd (let z : ◌≡◌ {A = ℕ} 0 1 = cc in omega arith)
    body u (some v) h e = close v.0 (strip (ascii "}}") v.1) e (within (suc (length u)) u v.0 v.1 h)

    begin : (o : Option (List ℕ)) → then {B = List ℕ × List ℕ} o (λ u. then (clob_bytes (suc (length u)) u) (λ v. then (strip (ascii "}}") v.1) (λ r. some (v.0, r)))) ≡ some (x, r) → Bytes x
    begin none e = absurd (let z : ◌≡◌ {A = ℕ} 0 1 = cc in omega arith)
    begin (some u) e = body u (clob_bytes (suc (length u)) u) refl e
