-- Base64's characters side by side in a word, and the bytes of their numbers. Assumes nothing.
use Prim.Native.Nat.{ℕ, ◌+◌, ◌*◌, ◌/◌, ◌%◌, ◌<◌}
use mathlib.Core.Path.{◌≡◌, refl, sym, ap, ◌∙◌}
use mathlib.Core.Bool.{Bool, true, false, ◌&&◌}
use mathlib.Core.List.{List, [], ◌∷◌, ◌++◌, map, append-nil}
use mathlib.Core.Option.{none, some}
use native.Mathlib.Omega.{arith}
use lib.ListN.{take, get_or}
use Rattle.output.specs.Logic.{if}
use Rattle.output.specs.Wrote.{le_bytes}
use Rattle.lanes.specs.Lanes.{Lane, every, unmarked_by}
use Rattle.lanes.specs.Sextets.{octets, value_lane, no_base64}
use Rattle.lanes.proofs.LaneLaws.{lane_bytes}
use Rattle.text_rules.specs.Base64.{alphabet, place_from, base64_value, bits_of, bytes24}
use Rattle.text_rules.proofs.Table.{same}
use Rattle.tokens.specs.BlobSteps.{group_at}
use Rattle.tokens.proofs.BlobChars.{value_char, four_bits, none_first, none-second, none-third, none_fourth}

-- ---- the lane of a character is its number

lane_value : (b : ℕ) → b < 256 → base64_value b ≡ if (unmarked_by no_base64 b) (some (value_lane b)) none
unfolding base64_value alphabet place_from unmarked_by
lane_value = same base64_value (λ b. if (unmarked_by no_base64 b) (some (value_lane b)) none) 256 refl

-- four `A`
letters_unmarked : every (unmarked_by no_base64) (65 ∷ 65 ∷ 65 ∷ 65 ∷ []) ≡ true
unfolding every unmarked_by
letters_unmarked = refl

-- numbers of six bits, side by side, and their bytes
octets-bits : (i j k l : ℕ) (s : List ℕ) → i < 64 → j < 64 → k < 64 → l < 64 → octets (i ∷ j ∷ k ∷ l ∷ s) ≡ bytes24 (((i * 64 + j) * 64 + k) * 64 + l) ++ octets s
unfolding octets bytes24
octets-bits i j k l s hi hj hk hl =
    let n = ((i * 64 + j) * 64 + k) * 64 + l in
    let x : i % 64 * 4 + j / 16 % 4 ≡ n / 65536 = omega arith in
    let y : j % 16 * 16 + k / 4 % 16 ≡ n / 256 % 256 = omega arith in
    let z : k % 4 * 64 + l % 64 ≡ n % 256 = omega arith in
    rw (x, y, z)

and_both : (x y : Bool) → (x && y) ≡ true → (x ≡ true) × (y ≡ true)
and_both true y e = (refl, e)
and_both false y e = absurd (let z : ◌≡◌ {A = ℕ} 0 1 = cc in omega arith)

-- the bits of four bytes whose numbers num gives
abbrev bits_by : (ℕ → ℕ) → ℕ → ℕ → ℕ → ℕ → ℕ
bits_by num a b c d = ((num a * 64 + num b) * 64 + num c) * 64 + num d

-- n is the 24 bits of four characters
pub record Bits (n a b c d : ℕ) : Type 0 where
  pub is : some n ≡ bits_of a b c d
  pub below : n < 16777216

-- ok says which bytes are characters, and num their numbers
module _ (ok : ℕ → Bool) (num : ℕ → ℕ) (is : (b : ℕ) → b < 256 → base64_value b ≡ if (ok b) (some (num b)) none) where
  value-yes : (b : ℕ) → b < 256 → ok b ≡ true → base64_value b ≡ some (num b)
  value-yes b h e = is b h ∙ rw e

  value_no : (b : ℕ) → b < 256 → ok b ≡ false → base64_value b ≡ none
  value_no b h e = is b h ∙ rw e

  module _ (a b c d : ℕ) (ha : a < 256) (hb : b < 256) (hc : c < 256) (hd : d < 256) (s : List ℕ) where
    record Group : Type 0 where
      bits : bits_of a b c d ≡ some (bits_by num a b c d)
      bytes : octets (map num (a ∷ b ∷ c ∷ d ∷ s)) ≡ bytes24 (bits_by num a b c d) ++ octets (map num s)
      rest : every ok s ≡ true
      lt_a : num a < 64
      lt_b : num b < 64
      lt_c : num c < 64
      lt_d : num d < 64

    group_yes : every ok (a ∷ b ∷ c ∷ d ∷ s) ≡ true → Group
    unfolding every
    group_yes e =
        let p = and_both (ok a) _ e in
        let q = and_both (ok b) _ p.1 in
        let r = and_both (ok c) _ q.1 in
        let t = and_both (ok d) _ r.1 in
        let va = value-yes a ha p.0 in
        let vb = value-yes b hb q.0 in
        let vc = value-yes c hc r.0 in
        let vd = value-yes d hd t.0 in
        let la = (value_char a (num a) va).0 in
        let lb = (value_char b (num b) vb).0 in
        let lc = (value_char c (num c) vc).0 in
        let ld = (value_char d (num d) vd).0 in
        record { bits = four_bits a b c d (num a) (num b) (num c) (num d) va vb vc vd; bytes = octets-bits (num a) (num b) (num c) (num d) (map num s) la lb lc ld; rest = t.1; lt_a = la; lt_b = lb; lt_c = lc; lt_d = ld }

    group_no : every ok s ≡ true → every ok (a ∷ b ∷ c ∷ d ∷ s) ≡ false → bits_of a b c d ≡ none
    unfolding every
    group_no g e = go (ok a) (ok b) (ok c) (ok d) (every ok s) refl refl refl refl g e
      where
        go : (p q r t u : Bool) → ok a ≡ p → ok b ≡ q → ok c ≡ r → ok d ≡ t → u ≡ true → (p && (q && (r && (t && u)))) ≡ false → bits_of a b c d ≡ none
        go false q r t u ep eq er et g e = none_first a b c d (value_no a ha ep)
        go true false r t u ep eq er et g e = none-second a b c d (value_no b hb eq)
        go true true false t u ep eq er et g e = none-third a b c d (value_no c hc er)
        go true true true false u ep eq er et g e = none_fourth a b c d (value_no d hd et)
        go true true true true u ep eq er et g e = absurd (let z : ◌≡◌ {A = ℕ} 0 1 = cc in omega arith)

    -- the bits, where the numbers are the lowest bytes of a word
    group_word : (v : ℕ) → le_bytes 4 v ≡ map num (a ∷ b ∷ c ∷ d ∷ []) → Group → Bits (v % 256 * 262144 + v / 256 % 256 * 4096 + v / 65536 % 256 * 64 + v / 16777216 % 256) a b c d
    unfolding le_bytes
    group_word v e g =
        let p : v % 256 ≡ num a = ap (λ (l : List ℕ). get_or l 0 0) e in
        let q : v / 256 % 256 ≡ num b = ap (λ (l : List ℕ). get_or l 1 0) e in
        let r : v / 256 / 256 % 256 ≡ num c = ap (λ (l : List ℕ). get_or l 2 0) e in
        let t : v / 256 / 256 / 256 % 256 ≡ num d = ap (λ (l : List ℕ). get_or l 3 0) e in
        let r' : v / 65536 % 256 ≡ num c = ap (λ (k : ℕ). k % 256) (let z : v / 65536 ≡ v / 256 / 256 = omega arith in z) ∙ r in
        let t' : v / 16777216 % 256 ≡ num d = ap (λ (k : ℕ). k % 256) (let z : v / 16777216 ≡ v / 256 / 256 / 256 = omega arith in z) ∙ t in
        rw (p, q, r', t') (read (num a * 262144 + num b * 4096 + num c * 64 + num d) (bits_by num a b c d) g.bits (omega (arith, g.lt_a, g.lt_b, g.lt_c, g.lt_d)) (omega arith))
      where
        read : (m n : ℕ) → bits_of a b c d ≡ some n → m < 16777216 → m ≡ n → Bits m a b c d
        read m n e l h = record { is = ap some h ∙ sym e; below = l }

-- ---- a word of four characters and four `A`

module _ (a b c d x : ℕ) (ha : a < 256) (hb : b < 256) (hc : c < 256) (hd : d < 256) (e : x ≡ a + 256 * b + 65536 * c + 16777216 * d + 0x4141414100000000) where
  word_bytes : le_bytes 8 x ≡ a ∷ b ∷ c ∷ d ∷ 65 ∷ 65 ∷ 65 ∷ 65 ∷ []
  unfolding le_bytes
  word_bytes =
      let p : x % 256 ≡ a = omega arith in
      let q : x / 256 ≡ b + 256 * (c + 256 * (d + 256 * 0x41414141)) = omega arith in
      let q' : (b + 256 * (c + 256 * (d + 256 * 0x41414141))) % 256 ≡ b = omega arith in
      let r : (b + 256 * (c + 256 * (d + 256 * 0x41414141))) / 256 ≡ c + 256 * (d + 256 * 0x41414141) = omega arith in
      let r' : (c + 256 * (d + 256 * 0x41414141)) % 256 ≡ c = omega arith in
      let s : (c + 256 * (d + 256 * 0x41414141)) / 256 ≡ d + 256 * 0x41414141 = omega arith in
      let s' : (d + 256 * 0x41414141) % 256 ≡ d = omega arith in
      let t : (d + 256 * 0x41414141) / 256 ≡ 0x41414141 = omega arith in
      rw (p, q, q', r, r', s, s', t)

  pub bits-refused : every (unmarked_by no_base64) (le_bytes 8 x) ≡ false → none ≡ bits_of a b c d
  bits-refused g = sym (group_no (unmarked_by no_base64) value_lane lane_value a b c d ha hb hc hd (65 ∷ 65 ∷ 65 ∷ 65 ∷ []) letters_unmarked (ap (every (unmarked_by no_base64)) (sym word_bytes) ∙ g))

  pub bits-read : (v : ℕ) → every (unmarked_by no_base64) (le_bytes 8 x) ≡ true → Lane value_lane x v → Bits (v % 256 * 262144 + v / 256 % 256 * 4096 + v / 65536 % 256 * 64 + v / 16777216 % 256) a b c d
  bits-read v g w =
      let s : List ℕ = 65 ∷ 65 ∷ 65 ∷ 65 ∷ [] in
      let l : le_bytes 4 x ≡ a ∷ b ∷ c ∷ d ∷ [] = unfold le_bytes in ap (take 4) word_bytes in
      group_word (unmarked_by no_base64) value_lane lane_value a b c d ha hb hc hd s v (lane_bytes w 4 (omega arith) ∙ ap (map value_lane) l) (group_yes (unmarked_by no_base64) value_lane lane_value a b c d ha hb hc hd s (ap (every (unmarked_by no_base64)) (sym word_bytes) ∙ g))

-- ---- a word of eight characters

pub word-groups : (x v y : ℕ) → every (unmarked_by no_base64) (le_bytes 8 x) ≡ true → Lane value_lane x v → le_bytes 6 y ≡ octets (le_bytes 8 v) → (n m : ℕ) × (group_at (le_bytes 4 x) ≡ some n) × (group_at (le_bytes 4 (x / 256 / 256 / 256 / 256)) ≡ some m) × (le_bytes 6 y ≡ bytes24 n ++ bytes24 m)
unfolding group_at le_bytes
word-groups x v y e w h =
    let z = x / 256 / 256 / 256 / 256 in
    let p = group_yes (unmarked_by no_base64) value_lane lane_value (x % 256) (x / 256 % 256) (x / 256 / 256 % 256) (x / 256 / 256 / 256 % 256) (omega arith) (omega arith) (omega arith) (omega arith) (le_bytes 4 z) e in
    let q = group_yes (unmarked_by no_base64) value_lane lane_value (z % 256) (z / 256 % 256) (z / 256 / 256 % 256) (z / 256 / 256 / 256 % 256) (omega arith) (omega arith) (omega arith) (omega arith) [] p.rest in
    (_, _, p.bits, q.bits, h ∙ ap octets (lane_bytes w 8 (omega arith)) ∙ p.bytes ∙ ap (λ (l : List ℕ). bytes24 (bits_by value_lane (x % 256) (x / 256 % 256) (x / 256 / 256 % 256) (x / 256 / 256 / 256 % 256)) ++ l) (q.bytes ∙ unfold octets in append-nil _))
