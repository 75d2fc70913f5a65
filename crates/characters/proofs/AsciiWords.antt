-- Bytes below hex 80, told by words of eight: in front of a text they decide nothing. Assumes nothing.
use mathlib.Core.Path.{◌≡◌, refl, sym, ap, ◌∙◌}
use mathlib.Core.Bool.{Bool, true}
use mathlib.Core.List.{List, [], ◌∷◌, ◌++◌, append-nil}
use Prim.Native.Nat.{ℕ, zero, suc, ◌+◌, ◌-◌, ◌^◌, ◌≤◌, ◌<◌}
use native.Mathlib.Omega.{arith}
use lib.Bits.{bit_and}
use lib.Dec.{ltb}
use lib.ListN.{length, take, drop, take-append-drop, length-drop}
use lib.Seq.{drop-drop, take_all}
use borrow.Author.Tests.{ltb-true, eq-eqb}
use Rattle.output.specs.Wrote.{le_bytes}
use Rattle.output.proofs.Bools.{both}
use Rattle.lanes.specs.Lanes.{rep, every, unmarked_by}
use Rattle.lanes.proofs.LaneLaws.{lane_self, unmarked, every-same}
use Rattle.lanes.proofs.Table.{same as agree}
use Rattle.characters.specs.Utf8.{char_at, after, valid}
use Rattle.characters.proofs.Utf8Chars.{ascii as one_byte}

abbrev is_ascii : ℕ → Bool
is_ascii b = ltb b 0x80

ascii_test : (b : ℕ) → b < 256 → unmarked_by (λ b. b) b ≡ is_ascii b
unfolding unmarked_by
ascii_test = agree (unmarked_by (λ b. b)) is_ascii 256 refl

-- in front of a text they decide nothing
ascii_front : (s t : List ℕ) → every is_ascii s ≡ true → after 0 (s ++ t) ≡ after 0 t
unfolding after every
ascii_front [] t h = refl
ascii_front (b ∷ s) t h =
    let p = both (is_ascii b) (every is_ascii s) h in
    let one : char_at (b ∷ (s ++ t)) 0 ≡ 1 = one_byte _ _ _ _ (ltb-true b 0x80 p.0) in
    rw one (ascii_front s t p.1)

pub ascii_all : (s : List ℕ) → every is_ascii s ≡ true → valid s ≡ true
unfolding valid after
ascii_all s h = ap (after 0) (sym (append-nil s)) ∙ ascii_front s [] h

pub ascii_word : (n x : ℕ) → every (unmarked_by (λ b. b)) (le_bytes n x) ≡ true → every is_ascii (le_bytes n x) ≡ true
ascii_word n x h = sym (every-same (unmarked_by (λ b. b)) is_ascii ascii_test n x) ∙ h

-- eight bytes of which no high bit is set
eight_ascii : (x : ℕ) → x < 2 ^ 64 → bit_and x 0x8080808080808080 ≡ 0 → every is_ascii (le_bytes 8 x) ≡ true
unfolding rep
eight_ascii x h e = ascii_word 8 x (sym (unmarked (lane_self x h) 8 (omega arith)) ∙ eq-eqb (bit_and x 0x8080808080808080) 0 e)

-- a word at a place of which no high bit is set is passed
pub word-passed : (s : List ℕ) (i x : ℕ) → x < 2 ^ 64 → le_bytes 8 x ≡ take 8 (drop i s) → bit_and x 0x8080808080808080 ≡ 0 → valid (drop i s) ≡ valid (drop (i + 8) s)
unfolding valid
word-passed s i x h w e =
    let a : every is_ascii (take 8 (drop i s)) ≡ true = rw w at (eight_ascii x h e) in
    ap (after 0) (sym (take-append-drop 8 (drop i s))) ∙ ascii_front (take 8 (drop i s)) (drop 8 (drop i s)) a ∙ ap (after 0) (drop-drop 8 i s)

every_drop : (p : ℕ → Bool) (k : ℕ) (s : List ℕ) → every p s ≡ true → every p (drop k s) ≡ true
unfolding every
every_drop p zero s h = h
every_drop p (suc k) [] h = h
every_drop p (suc k) (b ∷ s) h = every_drop p k s (both (p b) (every p s) h).1

-- where no high bit of the last eight bytes is set, what is left of them is valid
pub last_word : (s : List ℕ) (i x : ℕ) → 8 ≤ length s → length s < i + 8 → x < 2 ^ 64 → le_bytes 8 x ≡ take 8 (drop (length s - 8) s) → bit_and x 0x8080808080808080 ≡ 0 → valid (drop i s) ≡ true
last_word s i x l g h w e =
    let m = length s - 8 in
    let t : take 8 (drop m s) ≡ drop m s = take_all 8 (drop m s) (omega (arith, length-drop m s)) in
    let a : every is_ascii (drop m s) ≡ true = rw (w ∙ t) at (eight_ascii x h e) in
    let j : m + (i - m) ≡ i = omega arith in
    ap (λ (u : List ℕ). valid u) (sym (drop-drop (i - m) m s ∙ ap (λ (k : ℕ). drop k s) j)) ∙ ascii_all (drop (i - m) (drop m s)) (every_drop is_ascii (i - m) (drop m s) a)
