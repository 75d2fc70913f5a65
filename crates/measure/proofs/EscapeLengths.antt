-- How long the bodies of texts, clobs and blobs are. Assumes nothing.
use mathlib.Core.Path.{◌≡◌, refl}
use mathlib.Core.Bool.{Bool, true, false, ◌&&◌}
use mathlib.Core.List.{List, [], ◌∷◌, ◌++◌}
use Prim.Native.Nat.{ℕ, zero, suc, ◌+◌, ◌-◌, ◌*◌, ◌/◌, ◌%◌, ◌≤◌, ◌<◌}
use native.Mathlib.Omega.{arith}
use lib.Dec.{leb}
use lib.ListN.{length, take, drop, length-append, length-take}
use lib.Seq.{take-add, drop-drop, take-append_seam, drop-append_seam}
use Rattle.output.specs.Logic.{if, byte, ascii}
use Rattle.output.specs.Wrote.{le_bytes}
use Rattle.output.proofs.Bools.{both}
use Rattle.output.proofs.Laws.{length-le}
use Rattle.lanes.specs.Lanes.{every, unmarked_by, no_raw}
use Rattle.lanes.proofs.Table.{same as agree}
use Rattle.text_rules.specs.Base64.{base64}
use Rattle.text_rules.specs.Escapes.{letter_of, has_letter, hex_escape, has_hex, text_escape, text_body, clob_escape, clob_body}
use Rattle.text_rules.specs.Text.{symbol_text, marked, clob_text, blob_text}
use Rattle.text_rules.proofs.Base64Laws.{base64-length}
use Rattle.text_rules.proofs.EscapesLaws.{text_body_most, body_part}
use Rattle.text_rules.proofs.LaneTests.{raw_word, word-part}
use Rattle.text_rules.proofs.SymbolsText.{symbol_either}
use Rattle.measure.proofs.MarkLaws.{low_escape_mark, hex_escape_mark, marked_count}

-- ---- text

-- a byte takes one byte, one more if it is escaped, and two more by hex digits
escape_test : (b : ℕ) → b < 256 → 1 + (if (unmarked_by no_raw b) 0 1 + 2 * if (unmarked_by hex_escape_mark b) 0 1) ≡ length (text_escape b)
unfolding unmarked_by text_escape has_letter has_hex
escape_test = agree (λ b. 1 + (if (unmarked_by no_raw b) 0 1 + 2 * if (unmarked_by hex_escape_mark b) 0 1)) (λ b. length (text_escape b)) 256 refl

-- the body of a word's n lowest bytes
pub escaped_length : (n x : ℕ) → n + (marked_count no_raw (le_bytes n x) + 2 * marked_count hex_escape_mark (le_bytes n x)) ≡ length (text_body (le_bytes n x))
unfolding marked_count le_bytes text_body
escaped_length zero x = refl
escaped_length (suc n) x =
    omega (arith, escape_test (x % 256) (omega arith), escaped_length n (x / 256), length-append (text_escape (x % 256)) (text_body (le_bytes n (x / 256))))

-- where no escaped byte is below hex 20, none has hex digits
low_test : (b : ℕ) → b < 256 → ◌≡◌ {A = ℕ} (if (unmarked_by low_escape_mark b) (if (unmarked_by hex_escape_mark b) 0 1) 0) 0
unfolding unmarked_by
low_test = agree (λ b. if (unmarked_by low_escape_mark b) (if (unmarked_by hex_escape_mark b) 0 1) 0) (λ b. 0) 256 refl

pub none-low : (n x : ℕ) → every (unmarked_by low_escape_mark) (le_bytes n x) ≡ true → marked_count hex_escape_mark (le_bytes n x) ≡ 0
unfolding marked_count le_bytes every
none-low zero x h = refl
none-low (suc n) x h =
    let p = both (unmarked_by low_escape_mark (x % 256)) (every (unmarked_by low_escape_mark) (le_bytes n (x / 256))) h in
    let t : ◌≡◌ {A = ℕ} (if (unmarked_by hex_escape_mark (x % 256)) 0 1) 0 = rw p.0 at (low_test (x % 256) (omega arith)) in
    omega (arith, t, none-low n (x / 256) p.1)

-- of a text in two parts
pub body_length-append : (s t : List ℕ) → length (text_body (s ++ t)) ≡ length (text_body s) + length (text_body t)
unfolding text_body
body_length-append [] t = omega arith
body_length-append (c ∷ s) t =
    omega (arith, body_length-append s t, length-append (text_escape c) (text_body (s ++ t)), length-append (text_escape c) (text_body s))

-- of the first i bytes and k more, which a word has
pub body_more : (l : List ℕ) (i k c m x : ℕ) → i + c ≡ length (text_body (take i l)) → le_bytes k x ≡ take k (drop i l) → k + m ≡ length (text_body (le_bytes k x)) → i + k + (c + m) ≡ length (text_body (take (i + k) l))
body_more l i k c m x h e j =
    let q : length (text_body (take (i + k) l)) ≡ length (text_body (take i l)) + length (text_body (le_bytes k x)) =
    rw (take-add i k l, e) (body_length-append (take i l) (take k (drop i l))) in
    omega (arith, q, j)

-- raw text in two parts is raw
raw-both : (s t : List ℕ) → text_body s ≡ s → text_body t ≡ t → text_body (s ++ t) ≡ s ++ t
raw-both s t h e =
    let z : 0 + length s ≡ length s = omega arith in
    body_part (s ++ t) 0 (length s) (rw (take-append_seam s t) h) (rw (z, drop-append_seam s t) e)

-- the first n bytes, of which the first m are raw, and so are the others
pub raw-rest : (s : List ℕ) (m n : ℕ) → m ≤ n → text_body (take m s) ≡ take m s → text_body (take (n - m) (drop m s)) ≡ take (n - m) (drop m s) → text_body (take n s) ≡ take n s
raw-rest s m n l h e =
    let z : n ≡ m + (n - m) = omega arith in
    rw (z, take-add m (n - m) s) (raw-both (take m s) (take (n - m) (drop m s)) h e)

-- i raw bytes from a place on and k more, which a word has
pub raw_more : (s : List ℕ) (from i k x : ℕ) → k ≤ 8 → le_bytes 8 x ≡ take 8 (drop (from + i) s) → every (unmarked_by no_raw) (le_bytes k x) ≡ true
    → text_body (take i (drop from s)) ≡ take i (drop from s) → text_body (take (i + k) (drop from s)) ≡ take (i + k) (drop from s)
raw_more s from i k x l e r h =
    let b : le_bytes k x ≡ take k (drop i (drop from s)) = rw (drop-drop i from s) (word-part s (from + i) k x l e) in
    rw (take-add i k (drop from s)) (raw-both (take i (drop from s)) (take k (drop i (drop from s))) h (rw b at (raw_word k x r)))

-- of a word's n lowest bytes
pub word_body_most : (n x : ℕ) → length (text_body (le_bytes n x)) ≤ 4 * n
word_body_most n x = omega (arith, text_body_most (le_bytes n x), length-le n x)

-- an escape adds three bytes at most, so the body of i bytes is longer by 3 i at most
pub escapes_most : (l : List ℕ) (i c : ℕ) → i + c ≡ length (text_body (take i l)) → c ≤ 3 * i
escapes_most l i c h = omega (arith, text_body_most (take i l), length-take i l)

-- with a mark before it and one behind it
pub marked-length : (q : ℕ) (s : List ℕ) → length (marked q s) ≡ length (text_body s) + 2
marked-length q s = omega (arith, length-append (text_body s) (q ∷ []))

-- at most four bytes for each, and the marks
pub quoted_most : (q : ℕ) (s : List ℕ) → length (marked q s) ≤ 4 * length s + 2
quoted_most q s = omega (arith, text_body_most s, marked-length q s)

pub symbol_most : (quoted : Bool) (s : List ℕ) → length (symbol_text quoted s) ≤ 4 * length s + 2
symbol_most quoted s = symbol_either (λ t. length t ≤ 4 * length s + 2) quoted s (λ b. omega arith) (quoted_most (byte "'") s)

-- ---- clobs

-- at most four bytes for each
clob_short : (b : ℕ) → length (clob_escape b) ≤ 4
unfolding clob_escape
clob_short b = go (has_letter b) (leb 0x20 b && leb b 0x7E)
  where
    go : (h r : Bool) → length (if h (byte "\\" ∷ letter_of b ∷ []) (if r (b ∷ []) (hex_escape b))) ≤ 4
    go true r = omega arith
    go false true = omega arith
    go false false = omega arith

pub clob_body_most : (s : List ℕ) → length (clob_body s) ≤ 4 * length s
unfolding clob_body
clob_body_most [] = omega arith
clob_body_most (c ∷ s) = omega (arith, clob_short c, clob_body_most s, length-append (clob_escape c) (clob_body s))

-- with its marks
pub clob_text_length : (s : List ℕ) → length (clob_text s) ≡ length (clob_body s) + 6
unfolding clob_text
clob_text_length s = omega (arith, length-append (ascii "{{\"" ++ clob_body s) (ascii "\"}}"))

-- ---- blobs

-- with its marks
pub blob_text_length : (s : List ℕ) → length (blob_text s) ≡ (length s + 2) / 3 * 4 + 4
unfolding blob_text
blob_text_length s = omega (arith, base64-length s, length-append (ascii "{{" ++ base64 s) (ascii "}}"))
