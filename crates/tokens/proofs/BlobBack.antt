-- Blobs are read back, and each has one spelling: base64 of any bytes is read as those bytes, and of nothing else. Assumes nothing.
use Prim.Native.Nat.{ℕ, zero, suc, ◌+◌, ◌/◌, ◌%◌, ◌≤◌, ◌<◌}
use mathlib.Core.Path.{◌≡◌, refl, sym, ap, subst, ◌∙◌}
use mathlib.Core.Bool.{Bool, true, false}
use mathlib.Core.List.{List, [], ◌∷◌, ◌++◌, append_assoc}
use mathlib.Core.Option.{Option, none, some}
use native.Mathlib.Omega.{arith}
use lib.Dec.{eqb}
use lib.ListN.{length, take, drop, get_or, length-append}
use lib.Seq.{drop-append_seam}
use borrow.Author.Tests.{eqb-true, eq-eqb}
use Rattle.output.specs.Logic.{if, then, byte, ascii}
use Rattle.text_rules.specs.Texts.{empty, starts, strip}
use Rattle.text_rules.specs.Text.{blob_text}
use Rattle.text_rules.specs.Base64.{alphabet, base64_character, bits24, characters24, base64, bits_of, bytes24, first_bytes, padded, base64_bytes}
use Rattle.tokens.proofs.Utf8Back.{Bytes, bytes-append, bytes_one}
use Rattle.tokens.specs.Blob.{until_brace, blob_rest, blob}
use Rattle.tokens.proofs.BlobChars.{clash, then_some, char_value, char_brace, char_quote, value-pad, chars_bits, bits-bytes, bytes_bits, bits_lt, bits_chars}

-- ---- base64 of bytes is read as the bytes

-- the characters of 24 bits mean them
read_bits : (n : ℕ) → n < 16777216 → bits_of (base64_character (n / 262144)) (base64_character (n / 4096 % 64)) (base64_character (n / 64 % 64)) (base64_character (n % 64)) ≡ some n
read_bits n h = chars_bits n (n / 262144) (n / 4096 % 64) (n / 64 % 64) (n % 64) (omega arith) (omega arith) (omega arith) (omega arith) (omega arith)

-- `A` is the character of zero bits
letter-a : base64_character 0 ≡ byte "A"
unfolding base64_character alphabet
letter-a = refl

one_back : (a b n x : ℕ) → bits_of a b (byte "A") (byte "A") ≡ some n → n ≡ bits24 x 0 0 → padded a b (byte "=") ≡ some (x ∷ [])
unfolding padded first_bytes bytes24
one_back a b n x e h = let z : n / 65536 ≡ x = omega arith in rw (e, eq-eqb (n % 65536) 0 (omega arith), z)

two_back : (a b c n x y : ℕ) → eqb c (byte "=") ≡ false → bits_of a b c (byte "A") ≡ some n → y < 256 → n ≡ bits24 x y 0 → padded a b c ≡ some (x ∷ y ∷ [])
unfolding padded first_bytes bytes24
two_back a b c n x y m e l h =
    let z : n / 65536 ≡ x = omega arith in
    let w : n / 256 % 256 ≡ y = omega arith in
    rw (m, e, eq-eqb (n % 256) 0 (omega arith), z, w)

-- a character that is no mark
char_pad : (v : ℕ) → v < 64 → eqb (base64_character v) (byte "=") ≡ false
char_pad v h = value-pad (base64_character v) v (char_value v h)

pub base64_back : (s : List ℕ) → ((k : ℕ) → get_or s k 0 < 256) → base64_bytes (base64 s) ≡ some s
unfolding base64 base64_bytes characters24
base64_back [] h = refl
base64_back (a ∷ []) h =
    let n = bits24 a 0 0 in
    let p : n / 64 % 64 ≡ 0 = omega arith in
    let q : n % 64 ≡ 0 = omega arith in
    one_back (base64_character (n / 262144)) (base64_character (n / 4096 % 64)) n a (rw letter-a at (rw q at (rw p at (read_bits n (omega (arith, h 0)))))) refl
base64_back (a ∷ b ∷ []) h =
    let n = bits24 a b 0 in
    let q : n % 64 ≡ 0 = omega arith in
    two_back (base64_character (n / 262144)) (base64_character (n / 4096 % 64)) (base64_character (n / 64 % 64)) n a b (char_pad (n / 64 % 64) (omega arith)) (rw letter-a at (rw q at (read_bits n (omega (arith, h 0, h 1))))) (h 1) refl
base64_back (a ∷ b ∷ c ∷ s) h =
    let n = bits24 a b c in
    rw (char_pad (n % 64) (omega arith), read_bits n (omega (arith, h 0, h 1, h 2)), base64_back s (λ k. h (suc (suc (suc k)))), bits-bytes a b c (h 0) (h 1) (h 2))

-- ---- no other text is

if_some : {A : Type 0} (b : Bool) (x y : A) → if b (some x) none ≡ some y → (b ≡ true) × (x ≡ y)
if_some true x y e = (refl, (cc))
if_some false x y e = absurd (clash refl e)

one_once : (a b : ℕ) (s : List ℕ) → padded a b (byte "=") ≡ some s → a ∷ b ∷ ascii "==" ≡ base64 s
unfolding padded first_bytes bytes24 base64
one_once a b s e =
    let p = then_some (bits_of a b (byte "A") (byte "A")) _ s e in
    let q = if_some (eqb (p.0 % 65536) 0) _ s p.2 in
    let n = p.0 in
    let z : bits24 (n / 65536) 0 0 ≡ n = omega (arith, eqb-true (n % 65536) 0 q.0) in
    let g : base64 (n / 65536 ∷ []) ≡ a ∷ b ∷ ascii "==" = rw (z, bits_chars a b (byte "A") (byte "A") n p.1) in
    sym g ∙ ap base64 q.1

two_once : (a b c : ℕ) (s : List ℕ) → eqb c (byte "=") ≡ false → padded a b c ≡ some s → a ∷ b ∷ c ∷ ascii "=" ≡ base64 s
unfolding padded first_bytes bytes24 base64
two_once a b c s m e =
    let p = then_some (bits_of a b c (byte "A")) _ s (rw m at e) in
    let q = if_some (eqb (p.0 % 256) 0) _ s p.2 in
    let n = p.0 in
    let z : bits24 (n / 65536) (n / 256 % 256) 0 ≡ n = omega (arith, eqb-true (n % 256) 0 q.0) in
    let g : base64 (n / 65536 ∷ n / 256 % 256 ∷ []) ≡ a ∷ b ∷ c ∷ ascii "=" = rw (z, bits_chars a b c (byte "A") n p.1) in
    sym g ∙ ap base64 q.1

padded_once : (a b c : ℕ) (s : List ℕ) → padded a b c ≡ some s → a ∷ b ∷ c ∷ ascii "=" ≡ base64 s
padded_once a b c s e = go (eqb c (byte "=")) refl
  where
    go : (p : Bool) → eqb c (byte "=") ≡ p → a ∷ b ∷ c ∷ ascii "=" ≡ base64 s
    go true h =
        let z = eqb-true c (byte "=") h in
        ap (λ (k : ℕ). a ∷ b ∷ k ∷ ascii "=") z ∙ one_once a b s (ap (padded a b) (sym z) ∙ e)
    go false h = two_once a b c s h e

group_once : (a b c d n : ℕ) (s : List ℕ) → bits_of a b c d ≡ some n → a ∷ b ∷ c ∷ d ∷ base64 s ≡ base64 (bytes24 n ++ s)
group_once a b c d n s e =
    let g : base64 (n / 65536 ∷ n / 256 % 256 ∷ n % 256 ∷ s) ≡ a ∷ b ∷ c ∷ d ∷ base64 s = unfold base64 in rw (bytes_bits n, bits_chars a b c d n e) in
    sym g ∙ unfold bytes24 in refl

base64-none : [] ≡ base64 []
unfolding base64
base64-none = refl

pub base64_once : (u s : List ℕ) → base64_bytes u ≡ some s → u ≡ base64 s
unfolding base64_bytes
base64_once [] s e = let z : ◌≡◌ {A = List ℕ} [] s = cc in base64-none ∙ ap base64 z
base64_once (a ∷ []) s e = absurd (clash refl e)
base64_once (a ∷ b ∷ []) s e = absurd (clash refl e)
base64_once (a ∷ b ∷ c ∷ []) s e = absurd (clash refl e)
base64_once (a ∷ b ∷ c ∷ d ∷ t) s e = go (eqb d (byte "=")) refl e (λ v g. base64_once t v g)
  where
    last : (t : List ℕ) → d ≡ byte "=" → if (empty t) (padded a b c) none ≡ some s → a ∷ b ∷ c ∷ d ∷ t ≡ base64 s
    last [] h e = ap (λ (k : ℕ). a ∷ b ∷ c ∷ k ∷ []) h ∙ padded_once a b c s e
    last (x ∷ t) h e = absurd (clash refl e)

    go : (p : Bool) → eqb d (byte "=") ≡ p → if p (if (empty t) (padded a b c) none) (then (bits_of a b c d) (λ n. then (base64_bytes t) (λ v. some (bytes24 n ++ v)))) ≡ some s → ((v : List ℕ) → base64_bytes t ≡ some v → t ≡ base64 v) → a ∷ b ∷ c ∷ d ∷ t ≡ base64 s
    go true h e more = last t (eqb-true d (byte "=") h) e
    go false h e more =
        let p = then_some (bits_of a b c d) _ s e in
        let q = then_some (base64_bytes t) _ s p.2 in
        let r = q.2 in
        let z : bytes24 p.0 ++ q.0 ≡ s = cc in
        ap (λ (l : List ℕ). a ∷ b ∷ c ∷ d ∷ l) (more q.0 q.1) ∙ group_once a b c d p.0 q.0 p.1 ∙ ap base64 z

-- what it means is bytes
bytes-three : (n : ℕ) → n < 16777216 → Bytes (bytes24 n)
unfolding bytes24
bytes-three n h = bytes-append (n / 65536 ∷ []) (n / 256 % 256 ∷ n % 256 ∷ []) (bytes_one (n / 65536) (omega arith)) (bytes-append (n / 256 % 256 ∷ []) (n % 256 ∷ []) (bytes_one (n / 256 % 256) (omega arith)) (bytes_one (n % 256) (omega arith)))

bytes_take : (w : ℕ) (s : List ℕ) → Bytes s → Bytes (take w s)
bytes_take zero s h k = omega arith
bytes_take (suc w) [] h k = omega arith
bytes_take (suc w) (a ∷ s) h zero = h 0
bytes_take (suc w) (a ∷ s) h (suc k) = bytes_take w s (λ j. h (suc j)) k

padded-bytes : (a b c : ℕ) (s : List ℕ) → padded a b c ≡ some s → Bytes s
unfolding padded first_bytes
padded-bytes a b c s e = go (eqb c (byte "=")) e
  where
    firsts : (x y w m : ℕ) → then (bits_of a b x y) (λ n. if (eqb (n % suc m) 0) (some (take w (bytes24 n))) none) ≡ some s → Bytes s
    firsts x y w m e =
        let p = then_some (bits_of a b x y) _ s e in
        let q = if_some (eqb (p.0 % suc m) 0) _ s p.2 in
        subst Bytes q.1 (bytes_take w (bytes24 p.0) (bytes-three p.0 (bits_lt a b x y p.0 p.1)))

    go : (p : Bool) → if p (then (bits_of a b (byte "A") (byte "A")) (λ n. if (eqb (n % 65536) 0) (some (take 1 (bytes24 n))) none)) (then (bits_of a b c (byte "A")) (λ n. if (eqb (n % 256) 0) (some (take 2 (bytes24 n))) none)) ≡ some s → Bytes s
    go true e = firsts (byte "A") (byte "A") 1 65535 e
    go false e = firsts c (byte "A") 2 255 e

pub base64-bytes : (u s : List ℕ) → base64_bytes u ≡ some s → Bytes s
unfolding base64_bytes
base64-bytes [] s e = let z : ◌≡◌ {A = List ℕ} [] s = cc in subst Bytes z (λ k. omega arith)
base64-bytes (a ∷ []) s e = absurd (clash refl e)
base64-bytes (a ∷ b ∷ []) s e = absurd (clash refl e)
base64-bytes (a ∷ b ∷ c ∷ []) s e = absurd (clash refl e)
base64-bytes (a ∷ b ∷ c ∷ d ∷ t) s e = go (eqb d (byte "=")) e (λ v g. base64-bytes t v g)
  where
    last : (p : Bool) → if p (padded a b c) none ≡ some s → Bytes s
    last true e = padded-bytes a b c s e
    last false e = absurd (clash refl e)

    go : (p : Bool) → if p (if (empty t) (padded a b c) none) (then (bits_of a b c d) (λ n. then (base64_bytes t) (λ v. some (bytes24 n ++ v)))) ≡ some s → ((v : List ℕ) → base64_bytes t ≡ some v → Bytes v) → Bytes s
    go true e more = last (empty t) e
    go false e more =
        let p = then_some (bits_of a b c d) _ s e in
        let q = then_some (base64_bytes t) _ s p.2 in
        let r = q.2 in
        let z : bytes24 p.0 ++ q.0 ≡ s = cc in
        subst Bytes z (bytes-append (bytes24 p.0) q.0 (bytes-three p.0 (bits_lt a b c d p.0 p.1)) (more q.0 q.1))

-- ---- a blob is read back

-- the text before `}` is all of base64
until_base64 : (s t : List ℕ) → Bytes s → until_brace (base64 s ++ (byte "}" ∷ t)) ≡ base64 s
unfolding base64 characters24 until_brace
until_base64 [] t h = refl
until_base64 (a ∷ []) t h =
    let n = bits24 a 0 0 in
    rw (char_brace (n / 262144) (omega (arith, h 0)), char_brace (n / 4096 % 64) (omega arith))
until_base64 (a ∷ b ∷ []) t h =
    let n = bits24 a b 0 in
    rw (char_brace (n / 262144) (omega (arith, h 0, h 1)), char_brace (n / 4096 % 64) (omega arith), char_brace (n / 64 % 64) (omega arith))
until_base64 (a ∷ b ∷ c ∷ s) t h =
    let n = bits24 a b c in
    rw (char_brace (n / 262144) (omega (arith, h 0, h 1, h 2)), char_brace (n / 4096 % 64) (omega arith), char_brace (n / 64 % 64) (omega arith), char_brace (n % 64) (omega arith), until_base64 s t (λ k. h (suc (suc (suc k)))))

pub blob_back : (s r : List ℕ) → ((k : ℕ) → get_or s k 0 < 256) → blob (blob_text s ++ r) ≡ some (s, r)
unfolding blob blob_rest blob_text strip
blob_back s r h =
    let t = byte "}" ∷ byte "}" ∷ r in
    let e : (base64 s ++ ascii "}}") ++ r ≡ base64 s ++ t = append_assoc (base64 s) (ascii "}}") r in
    rw (e, until_base64 s (byte "}" ∷ r) h, base64_back s h, drop-append_seam (base64 s) t)

-- it does not look like a clob
pub blob_unquoted : (s r : List ℕ) → ((k : ℕ) → get_or s k 0 < 256) → starts (byte "\"") (drop 2 (blob_text s ++ r)) ≡ false
unfolding blob_text base64 characters24 starts
blob_unquoted [] r h = refl
blob_unquoted (a ∷ []) r h = char_quote (bits24 a 0 0 / 262144) (omega (arith, h 0))
blob_unquoted (a ∷ b ∷ []) r h = char_quote (bits24 a b 0 / 262144) (omega (arith, h 0, h 1))
blob_unquoted (a ∷ b ∷ c ∷ s) r h = char_quote (bits24 a b c / 262144) (omega (arith, h 0, h 1, h 2))

-- ---- each blob has one spelling

strip-split : (w t u : List ℕ) → strip w t ≡ some u → t ≡ w ++ u
unfolding strip
strip-split [] t u e = cc
strip-split (x ∷ w) [] u e = absurd (clash refl e)
strip-split (x ∷ w) (c ∷ t) u e = go (eqb c x) refl e (strip-split w t u)
  where
    go : (b : Bool) → eqb c x ≡ b → if b (strip w t) none ≡ some u → (strip w t ≡ some u → t ≡ w ++ u) → c ∷ t ≡ x ∷ (w ++ u)
    go true h e more = ap (λ (k : ℕ). k ∷ t) (eqb-true c x h) ∙ ap (λ (l : List ℕ). x ∷ l) (more e)
    go false h e more = absurd (clash refl e)

until_split : (t : List ℕ) → until_brace t ++ drop (length (until_brace t)) t ≡ t
unfolding until_brace
until_split [] = refl
until_split (c ∷ t) = go (eqb c (byte "}")) (until_split t)
  where
    go : (b : Bool) → until_brace t ++ drop (length (until_brace t)) t ≡ t → if b [] (c ∷ until_brace t) ++ drop (length (if b [] (c ∷ until_brace t))) (c ∷ t) ≡ c ∷ t
    go true e = refl
    go false e = ap (λ (l : List ℕ). c ∷ l) e

-- what was read, and what is left
abbrev got : Option (List ℕ × List ℕ) → List ℕ × List ℕ
got none = ([], [])
got (some v) = v

-- the parts of a blob that was read
module _ (t s r : List ℕ) (e : blob t ≡ some (s, r)) where
  record Parts : Type 0 where
    inner : List ℕ
    opened : strip (ascii "{{") t ≡ some inner
    means : base64_bytes (until_brace inner) ≡ some s
    ends : strip (ascii "}}") (drop (length (until_brace inner)) inner) ≡ some r

  parts : Parts
  unfolding blob blob_rest
  parts =
      let p = then_some (strip (ascii "{{") t) blob_rest (s, r) e in
      let u = p.0 in
      let q = then_some (base64_bytes (until_brace u)) _ (s, r) p.2 in
      let k = then_some (strip (ascii "}}") (drop (length (until_brace u)) u)) _ (s, r) q.2 in
      record { inner = u; opened = p.1; means = q.1 ∙ ap (λ (o : Option (List ℕ × List ℕ)). some (got o).0) k.2; ends = k.1 ∙ ap (λ (o : Option (List ℕ × List ℕ)). some (got o).1) k.2 }

  pub blob_once : t ≡ blob_text s ++ r
  unfolding blob_text
  blob_once =
      let p = parts in
      let u = p.inner in
      let f : u ≡ base64 s ++ (ascii "}}" ++ r) =
      sym (until_split u) ∙ ap (λ (l : List ℕ). l ++ drop (length (until_brace u)) u) (base64_once (until_brace u) s p.means) ∙ ap (λ (l : List ℕ). base64 s ++ l) (strip-split (ascii "}}") _ r p.ends)
      in
      strip-split (ascii "{{") t u p.opened ∙ ap (λ (l : List ℕ). ascii "{{" ++ l) (f ∙ sym (append_assoc (base64 s) (ascii "}}") r))

  pub blob-bytes : Bytes s
  blob-bytes = base64-bytes (until_brace parts.inner) s parts.means

-- ---- it is no longer than its text

base64_long : (s : List ℕ) → length s ≤ length (base64 s)
unfolding base64 characters24
base64_long [] = omega arith
base64_long (a ∷ []) = omega arith
base64_long (a ∷ b ∷ []) = omega arith
base64_long (a ∷ b ∷ c ∷ s) = omega (arith, base64_long s)

text_long : (s r : List ℕ) → length s + length r < length (blob_text s ++ r)
unfolding blob_text
text_long s r = omega (arith, length-append ((ascii "{{" ++ base64 s) ++ ascii "}}") r, length-append (ascii "{{" ++ base64 s) (ascii "}}"), base64_long s)

pub blob_short : (t s r : List ℕ) → blob t ≡ some (s, r) → length s + length r < length t
blob_short t s r e = rw (blob_once t s r e) (text_long s r)
