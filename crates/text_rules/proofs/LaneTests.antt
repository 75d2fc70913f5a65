-- What the tests of a word's bytes say: each is one test over the 256 bytes, and then every byte of a text passes it. Assumes nothing.
use mathlib.Core.Path.{◌≡◌, refl, sym, ap, ◌∙◌}
use mathlib.Core.Bool.{Bool, true, false, ◌&&◌, ◌||◌, not}
use mathlib.Core.List.{List, [], ◌∷◌, ◌++◌}
use mathlib.Core.Option.{none}
use Prim.Native.Nat.{ℕ, zero, suc, ◌+◌, ◌*◌, ◌/◌, ◌%◌, ◌^◌, ◌≤◌, ◌<◌}
use native.Mathlib.Nat.{mod-one, pow-suc}
use native.Mathlib.Omega.{arith}
use lib.Arith.{mod-mul}
use lib.Dec.{eqb, ltb}
use lib.ListN.{length, take, drop}
use lib.Seq.{take-take}
use borrow.Author.Tests.{ltb-true, not-true, ne_eqb}
use Rattle.output.specs.Logic.{if, on, byte, ascii}
use Rattle.output.specs.Wrote.{le_bytes}
use Rattle.output.proofs.Laws.{length-le}
use Rattle.output.proofs.Words.{value, take-le}
use Rattle.lanes.specs.Lanes.{every, unmarked_by, letter_mark, no_letter, no_part, no_raw}
use Rattle.lanes.proofs.LaneLaws.{two_digits, every-same}
use Rattle.text_rules.specs.Texts.{empty, starts, strip, same}
use Rattle.text_rules.specs.Digits.{is_digit}
use Rattle.text_rules.specs.Escapes.{has_letter, has_hex, text_escape, text_body}
use Rattle.text_rules.specs.Words.{is_start, is_part, behind_word, is_keyword, resembles_symbol_id, resembles_version_marker, is_identifier}
use Rattle.text_rules.specs.WordSteps.{is_letter_or_underscore, is_bare, all_part}
use Rattle.text_rules.specs.Text.{marked, symbol_text}
use Rattle.lanes.proofs.Table.{same as agree}
use Rattle.text_rules.proofs.SymbolsText.{symbol_bare, symbol-marked}
use Rattle.text_rules.proofs.WordsLaws.{same_long, same-is}
use Rattle.text_rules.proofs.DigitLaws.{never, both}

-- ---- bytes that text has raw

abbrev is_raw : ℕ → Bool
is_raw b = not (has_hex b) && not (has_letter b || eqb b (byte "'"))

raw_test : (b : ℕ) → b < 256 → unmarked_by no_raw b ≡ is_raw b
unfolding unmarked_by has_letter has_hex
raw_test = agree (unmarked_by no_raw) is_raw 256 refl

raw_body : (s : List ℕ) → every is_raw s ≡ true → text_body s ≡ s
unfolding text_body text_escape every
raw_body [] h = refl
raw_body (b ∷ s) h =
    let p = both (is_raw b) (every is_raw s) h in
    let q = both (not (has_hex b)) (not (has_letter b || eqb b (byte "'"))) p.0 in
    rw (not-true (has_hex b) q.0, not-true (has_letter b || eqb b (byte "'")) q.1, raw_body s p.1)

pub raw_word : (n x : ℕ) → every (unmarked_by no_raw) (le_bytes n x) ≡ true → text_body (le_bytes n x) ≡ le_bytes n x
raw_word n x h = raw_body (le_bytes n x) (sym (every-same (unmarked_by no_raw) is_raw raw_test n x) ∙ h)

-- ---- bytes of identifiers

part_test : (b : ℕ) → b < 256 → unmarked_by no_part b ≡ is_part b
unfolding unmarked_by is_part is_start is_digit
part_test = agree (unmarked_by no_part) is_part 256 refl

every-part : (s : List ℕ) → every is_part s ≡ all_part s
unfolding all_part behind_word every
every-part [] = refl
every-part (b ∷ s) = go (is_part b) (every-part s)
  where
    go : (p : Bool) → every is_part s ≡ empty (behind_word s) → p && every is_part s ≡ empty (if p (behind_word s) (b ∷ s))
    go true e = e
    go false e = refl

pub part-word : (n x : ℕ) → every (unmarked_by no_part) (le_bytes n x) ≡ all_part (le_bytes n x)
part-word n x = every-same (unmarked_by no_part) is_part part_test n x ∙ every-part (le_bytes n x)

-- letters and `_`
letter_test : (b : ℕ) → b < 256 → unmarked_by no_letter b ≡ is_letter_or_underscore b
unfolding unmarked_by is_letter_or_underscore is_start
letter_test = agree (unmarked_by no_letter) is_letter_or_underscore 256 refl

-- an identifier's byte with the mark of a letter or `_`
start_test : (b : ℕ) → b < 256 → is_part b && not (unmarked_by letter_mark b) ≡ is_letter_or_underscore b
unfolding unmarked_by is_part is_letter_or_underscore is_start is_digit
start_test = agree (λ b. is_part b && not (unmarked_by letter_mark b)) is_letter_or_underscore 256 refl

part-first : (b : ℕ) (s : List ℕ) → all_part (b ∷ s) ≡ true → (is_part b ≡ true) × (all_part s ≡ true)
part-first b s h =
    let p : is_part b && all_part s ≡ true = ap (λ (e : Bool). is_part b && e) (sym (every-part s)) ∙ unfold every in (every-part (b ∷ s) ∙ h) in
    both (is_part b) (all_part s) p

letters_part : (s : List ℕ) → every is_letter_or_underscore s ≡ true → all_part s ≡ true
unfolding all_part behind_word every is_part is_letter_or_underscore
letters_part [] h = refl
letters_part (b ∷ s) h =
    let p = both (is_letter_or_underscore b) (every is_letter_or_underscore s) h in
    let q = both (is_start b) (not (eqb b (byte "$"))) p.0 in
    rw q.0 (letters_part s p.1)

-- an identifier that starts with no `$` and is no keyword is bare
letter_bare : (b : ℕ) (s : List ℕ) → is_letter_or_underscore b ≡ true → all_part s ≡ true → is_keyword (b ∷ s) ≡ false → is_bare (b ∷ s) ≡ true
unfolding is_bare is_identifier resembles_symbol_id resembles_version_marker starts strip all_part is_letter_or_underscore
letter_bare b s h e k =
    let q = both (is_start b) (not (eqb b (byte "$"))) h in
    rw (q.0, e, k, not-true (eqb b (byte "$")) q.1)

letters_bare : (s : List ℕ) → 0 < length s → every is_letter_or_underscore s ≡ true → is_keyword s ≡ false → is_bare s ≡ true
unfolding every
letters_bare [] l h k = absurd (omega arith)
letters_bare (b ∷ s) l h k =
    let p = both (is_letter_or_underscore b) (every is_letter_or_underscore s) h in
    letter_bare b s p.0 (letters_part s p.1) k

-- the n lowest bytes are letters and `_`, and no keyword
pub letters_word : (n x : ℕ) → 1 ≤ n → every (unmarked_by no_letter) (le_bytes n x) ≡ true → is_keyword (le_bytes n x) ≡ false → symbol_text false (le_bytes n x) ≡ le_bytes n x
letters_word n x l h k =
    symbol_bare _ (letters_bare (le_bytes n x) (omega (arith, length-le n x)) (sym (every-same (unmarked_by no_letter) is_letter_or_underscore letter_test n x) ∙ h) k)

-- they are an identifier that starts with such a byte
pub word_bare : (n x : ℕ) → 1 ≤ n → all_part (le_bytes n x) ≡ true → not (unmarked_by letter_mark (x % 256)) ≡ true → is_keyword (le_bytes n x) ≡ false → is_bare (le_bytes n x) ≡ true
unfolding le_bytes
word_bare zero x l p h k = absurd (omega arith)
word_bare (suc n) x l p h k =
    let q = part-first (x % 256) (le_bytes n (x / 256)) p in
    letter_bare (x % 256) (le_bytes n (x / 256)) (sym (start_test (x % 256) (omega arith)) ∙ rw (q.0, h)) q.1 k

-- a text that is no identifier, or is a keyword, is not bare
pub identifier_part : (s : List ℕ) → is_identifier s ≡ true → all_part s ≡ true
unfolding is_identifier all_part behind_word is_part
identifier_part [] h = refl
identifier_part (c ∷ s) h =
    let p = both (is_start c) (empty (behind_word s)) h in
    rw p.0 p.1

pub other-marked : (s : List ℕ) → all_part s ≡ false → is_bare s ≡ false
unfolding is_bare
other-marked s h = go (is_identifier s) refl
  where
    go : (b : Bool) → is_identifier s ≡ b → b && (not (is_keyword s) && (not (resembles_symbol_id s) && not (resembles_version_marker s))) ≡ false
    go true e = never (sym (identifier_part s e) ∙ h)
    go false e = refl

pub keyword_marked : (s : List ℕ) → is_keyword s ≡ true → is_bare s ≡ false
unfolding is_bare
keyword_marked s h = rw h (go (is_identifier s))
  where
    go : (b : Bool) → b && false ≡ false
    go true = refl
    go false = refl

-- a text that needs no escape, quoted
pub marked-raw : (s : List ℕ) → text_body s ≡ s → marked (byte "'") s ≡ byte "'" ∷ (s ++ (byte "'" ∷ []))
marked-raw s e = ap (λ (t : List ℕ). byte "'" ∷ (t ++ (byte "'" ∷ []))) e

-- one that is not bare
pub symbol-quoted : (quoted : Bool) (s : List ℕ) → is_bare s ≡ false → text_body s ≡ s → symbol_text quoted s ≡ byte "'" ∷ (s ++ (byte "'" ∷ []))
symbol-quoted quoted s h e = symbol-marked quoted s h ∙ marked-raw s e

-- n bytes of a word of eight at a place
pub word-part : (s : List ℕ) (i n x : ℕ) → n ≤ 8 → le_bytes 8 x ≡ take 8 (drop i s) → le_bytes n x ≡ take n (drop i s)
word-part s i n x h e = sym (take-le n 8 x h) ∙ ap (take n) e ∙ take-take n 8 (drop i s) h

-- ---- keywords

-- no byte of a keyword needs an escape
pub keyword_raw : (s : List ℕ) → is_keyword s ≡ true → text_body s ≡ s
unfolding is_keyword text_body text_escape has_letter has_hex
keyword_raw s h = go (same (ascii "true") s) refl (same (ascii "false") s) refl (same (ascii "nan") s) refl (same (ascii "null") s) refl h
  where
    go : (a : Bool) → same (ascii "true") s ≡ a → (b : Bool) → same (ascii "false") s ≡ b → (c : Bool) → same (ascii "nan") s ≡ c → (d : Bool) → same (ascii "null") s ≡ d → a || b || c || d ≡ true → text_body s ≡ s
    go true p b q c r d t e = rw (same-is (ascii "true") s p)
    go false p true q c r d t e = rw (same-is (ascii "false") s q)
    go false p false q true r d t e = rw (same-is (ascii "nan") s r)
    go false p false q false r true t e = rw (same-is (ascii "null") s t)
    go false p false q false r false t e = never (sym e)

same_cons : (c b : ℕ) (s t : List ℕ) → same (c ∷ s) (b ∷ t) ≡ eqb b c && same s t
unfolding same strip
same_cons c b s t = go (eqb b c)
  where
    go : (a : Bool) → on (if a (strip s t) none) empty false ≡ a && on (strip s t) empty false
    go true = refl
    go false = refl

-- the lowest bytes of a number are a text
same_le : (s : List ℕ) → every (λ b. ltb b 256) s ≡ true → (x : ℕ) → same s (le_bytes (length s) x) ≡ eqb (x % 256 ^ length s) (value s)
unfolding every le_bytes value same strip
same_le [] h x = sym (ap (λ (k : ℕ). eqb k 0) (mod-one x))
same_le (c ∷ s) h x =
    let p = both (ltb c 256) (every (λ b. ltb b 256) s) h in
    let l : x % 256 < 256 = omega arith in
    let m : x % 256 ^ suc (length s) ≡ (x / 256 % 256 ^ length s) * 256 + x % 256 = rw (pow-suc 256 (length s)) (mod-mul x (pow_pos (length s)) (omega arith)) in
    same_cons c (x % 256) s (le_bytes (length s) (x / 256))
    ∙ ap (λ (b : Bool). eqb (x % 256) c && b) (same_le s p.1 (x / 256))
    ∙ sym (two_digits (x / 256 % 256 ^ length s) (x % 256) (value s) c l (ltb-true c 256 p.0))
    ∙ ap (λ (k : ℕ). eqb k (value s * 256 + c)) (sym m)
  where
    pow_pos : (n : ℕ) → 0 < 256 ^ n
    pow_pos zero = omega arith
    pow_pos (suc n) = rw (pow-suc 256 n) (omega (arith, pow_pos n))

-- a word of another length
other_length : (s : List ℕ) (n x : ℕ) → (n ≡ length s → ⊥) → same s (le_bytes n x) ≡ false
other_length s n x h = same_long s (le_bytes n x) (λ e. h (sym (length-le n x) ∙ e))

first-last : (a d : Bool) → a || false || false || d ≡ a || d
first-last true d = refl
first-last false d = refl

third : (c : Bool) → false || false || c || false ≡ c
third true = refl
third false = refl

second : (c : Bool) → false || c || false || false ≡ c
second true = refl
second false = refl

pub keyword-4 : (x : ℕ) → is_keyword (le_bytes 4 x) ≡ eqb (x % 4294967296) 0x65757274 || eqb (x % 4294967296) 0x6C6C756E
unfolding is_keyword every value
keyword-4 x = rw (same_le (ascii "true") refl x, other_length (ascii "false") 4 x (λ (e : 4 ≡ 5). omega arith), other_length (ascii "nan") 4 x (λ (e : 4 ≡ 3). omega arith), same_le (ascii "null") refl x) (first-last (eqb (x % 4294967296) 0x65757274) (eqb (x % 4294967296) 0x6C6C756E))

pub keyword-3 : (x : ℕ) → is_keyword (le_bytes 3 x) ≡ eqb (x % 16777216) 0x6E616E
unfolding is_keyword every value
keyword-3 x = rw (other_length (ascii "true") 3 x (λ (e : 3 ≡ 4). omega arith), other_length (ascii "false") 3 x (λ (e : 3 ≡ 5). omega arith), same_le (ascii "nan") refl x, other_length (ascii "null") 3 x (λ (e : 3 ≡ 4). omega arith)) (third (eqb (x % 16777216) 0x6E616E))

pub keyword-5 : (x : ℕ) → is_keyword (le_bytes 5 x) ≡ eqb (x % 1099511627776) 0x65736C6166
unfolding is_keyword every value
keyword-5 x = rw (other_length (ascii "true") 5 x (λ (e : 5 ≡ 4). omega arith), same_le (ascii "false") refl x, other_length (ascii "nan") 5 x (λ (e : 5 ≡ 3). omega arith), other_length (ascii "null") 5 x (λ (e : 5 ≡ 4). omega arith)) (second (eqb (x % 1099511627776) 0x65736C6166))

pub keyword_none : (n x : ℕ) → (n ≡ 3 → ⊥) → (n ≡ 4 → ⊥) → (n ≡ 5 → ⊥) → is_keyword (le_bytes n x) ≡ false
unfolding is_keyword
keyword_none n x h3 h4 h5 = rw (other_length (ascii "true") n x h4, other_length (ascii "false") n x h5, other_length (ascii "nan") n x h3, other_length (ascii "null") n x h4)

-- a text whose first byte is none of a keyword: of `t`, `f` and `n` the five lowest bits are 20, 6 and 14
pub keyword_start : (x n : ℕ) → 0x104040 / 2 ^ (x % 32) % 2 ≡ 0 → is_keyword (le_bytes n x) ≡ false
unfolding is_keyword le_bytes same strip
keyword_start x zero h = refl
keyword_start x (suc n) h =
    let t : eqb (x % 256) (byte "t") ≡ false = ne_eqb _ _ (λ (e : x % 256 ≡ byte "t"). let b : x % 32 ≡ 20 = omega arith in odd (rw b at h)) in
    let f : eqb (x % 256) (byte "f") ≡ false = ne_eqb _ _ (λ (e : x % 256 ≡ byte "f"). let b : x % 32 ≡ 6 = omega arith in odd (rw b at h)) in
    let m : eqb (x % 256) (byte "n") ≡ false = ne_eqb _ _ (λ (e : x % 256 ≡ byte "n"). let b : x % 32 ≡ 14 = omega arith in odd (rw b at h)) in
    rw (t, f, m)
  where
    odd : ◌≡◌ {A = ℕ} 1 0 → ⊥
    odd e = omega arith
