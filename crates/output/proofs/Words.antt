-- Laws of a number's bytes, the lowest first. Assumes nothing.
use mathlib.Core.Path.{◌≡◌, refl, sym, ap, subst, ◌∙◌}
use mathlib.Core.List.{List, [], ◌∷◌, ◌++◌}
use Prim.Native.Nat.{ℕ, zero, suc, ◌+◌, ◌-◌, ◌*◌, ◌/◌, ◌%◌, ◌^◌, ◌≤◌, ◌<◌}
use native.Mathlib.Nat.{suc-add, zero-add, sub-zero, mul_assoc, div-one, div-div-eq-div-mul, pow-succ'}
use native.Mathlib.Omega.{arith}
use lib.ListN.{length, get_or, take, drop, replicate, length-take, length-drop}
use lib.Seq.{sets}
use Rattle.std.specs.Int.{to_le_bytes, from_le_bytes, w8, w64}
use Rattle.std.proofs.Common.{Fits}
use Rattle.std.proofs.lemmas.List.{get_or-take, get_or-drop, get_or_past}
use Rattle.std.proofs.lemmas.Nat.{le_bytes_8}
use native.Mathlib.Decide.{dec_lt}
use lib.Pow.{pow-add, shr-shr}
use Rattle.output.specs.Wrote.{le_bytes}
use Rattle.output.proofs.Laws.{length-le, sets-lap}

-- dividing by a power of 256 and one more
div-pow : (n k : ℕ) → n / 256 / 256 ^ k ≡ n / 256 ^ suc k
div-pow n k = div-div-eq-div-mul n 256 (256 ^ k) ∙ ap (λ (d : ℕ). n / d) (sym (pow-succ' 256 k))

-- the lowest v bytes, and w above them
pub le_add : (v w n : ℕ) → le_bytes (v + w) n ≡ le_bytes v n ++ le_bytes w (n / 256 ^ v)
unfolding le_bytes
le_add zero w n = ap (λ (k : ℕ). le_bytes k n) (zero-add w) ∙ ap (le_bytes w) (sym (div-one n))
le_add (suc v) w n =
    ap (λ (k : ℕ). le_bytes k n) (suc-add v w)
    ∙ ap (λ (t : List ℕ). n % 256 ∷ t) (le_add v w (n / 256) ∙ ap (λ (m : ℕ). le_bytes v (n / 256) ++ le_bytes w m) (div-pow n v))

-- the first bytes are the lowest
pub take-le : (k w n : ℕ) → k ≤ w → take k (le_bytes w n) ≡ le_bytes k n
unfolding le_bytes
take-le zero w n h = refl
take-le (suc k) zero n h = absurd (omega arith)
take-le (suc k) (suc w) n h = ap (λ (t : List ℕ). n % 256 ∷ t) (take-le k w (n / 256) (omega arith))

-- without the k lowest bytes: the bytes of the number over 256 ^ k
pub drop_le : (k w n : ℕ) → drop k (le_bytes w n) ≡ le_bytes (w - k) (n / 256 ^ k)
unfolding le_bytes
drop_le zero w n = ap (λ (m : ℕ). le_bytes w m) (sym (div-one n)) ∙ ap (λ (j : ℕ). le_bytes j (n / 1)) (sym (sub-zero w))
drop_le (suc k) zero n = let z : 0 - suc k ≡ 0 = omega arith in rw z
drop_le (suc k) (suc w) n =
    let e : suc w - suc k ≡ w - k = omega arith in
    drop_le k w (n / 256) ∙ ap (λ (m : ℕ). le_bytes (w - k) m) (div-pow n k) ∙ ap (λ (j : ℕ). le_bytes j (n / 256 ^ suc k)) (sym e)

-- a shift by bytes
pub pow-bytes : (k : ℕ) → 2 ^ (8 * k) ≡ 256 ^ k
pow-bytes zero = refl
pow-bytes (suc k) =
    let e : 8 * suc k ≡ 8 + 8 * k = omega arith in
    ap (λ (j : ℕ). 2 ^ j) e ∙ pow-add 2 8 (8 * k) ∙ ap (λ (p : ℕ). 256 * p) (pow-bytes k) ∙ sym (pow-succ' 256 k)

-- a number's k lowest bytes and then the last k of its n lowest, which overlap, are the n lowest
pub le-lap : (l : List ℕ) (p w n k : ℕ) → k ≤ n → n ≤ k + k → sets (sets l p (le_bytes k w)) (p + (n - k)) (le_bytes k (w / 2 ^ (8 * (n - k)))) ≡ sets l p (le_bytes n w)
le-lap l p w n k h g =
    let s : List ℕ = le_bytes n w in
    let e : length s ≡ n = length-le n w in
    let m : n - (n - k) ≡ k = omega arith in
    let d : take k (drop (n - k) s) ≡ le_bytes k (w / 2 ^ (8 * (n - k))) =
    ap (take k) (drop_le (n - k) n w) ∙ rw (m, pow-bytes (n - k)) (take-le k k (w / 256 ^ (n - k)) (omega arith)) in
    let q : sets (sets l p (take k s)) (p + (n - k)) (take k (drop (n - k) s)) ≡ sets l p s =
    subst
    (λ (j : ℕ). k ≤ j → j ≤ k + k → sets (sets l p (take k s)) (p + (j - k)) (take k (drop (j - k) s)) ≡ sets l p s)
    e
    (λ (a : k ≤ length s) (b : length s ≤ k + k). sets-lap s l p k a b)
    h
    g in
    rw (d, take-le k n w h) at q

-- a shift leaves the last bytes
pub shift : (w v : ℕ) → w ≤ 8 → le_bytes w (v / 2 ^ (64 - 8 * w)) ≡ drop (8 - w) (le_bytes 8 v)
shift w v h =
    let e : 64 - 8 * w ≡ 8 * (8 - w) = omega arith in
    let m : 8 - (8 - w) ≡ w = omega arith in
    rw (e, pow-bytes (8 - w), drop_le (8 - w) 8 v, m)

-- its last c bytes by two stores of k bytes that overlap
pub last-lap : (l : List ℕ) (p v c k : ℕ) → k ≤ c → c ≤ k + k → c ≤ 8 → sets (sets l p (le_bytes k (v / 2 ^ (64 - 8 * c)))) (p + (c - k)) (le_bytes k (v / 2 ^ (64 - 8 * k))) ≡ sets l p (drop (8 - c) (le_bytes 8 v))
last-lap l p v c k h g b =
    let e : 64 - 8 * k ≡ 64 - 8 * c + 8 * (c - k) = omega arith in
    let q = v / 2 ^ (64 - 8 * c) in
    ap (λ (m : ℕ). sets (sets l p (le_bytes k q)) (p + (c - k)) (le_bytes k m)) (ap (λ (j : ℕ). v / 2 ^ j) e ∙ sym (shr-shr v (64 - 8 * c) (8 * (c - k))))
    ∙ le-lap l p q c k h g
    ∙ ap (sets l p) (shift c v b)

-- the four lowest bytes, each by one division, and so the eight, which std has a word for
pub le-4 : (w : ℕ) → le_bytes 4 w ≡ w % 256 ∷ w / 256 % 256 ∷ w / 65536 % 256 ∷ w / 16777216 % 256 ∷ []
unfolding le_bytes
le-4 w =
    let e : w / 256 / 256 ≡ w / 65536 = div-div-eq-div-mul w 256 256 in
    let f : w / 65536 / 256 ≡ w / 16777216 = div-div-eq-div-mul w 65536 256 in
    rw (e, f)

pub le-8 : (w : ℕ) → le_bytes 8 w ≡ to_le_bytes w64 w
le-8 w =
    let e : w / 4294967296 / 256 ≡ w / 1099511627776 = div-div-eq-div-mul w 4294967296 256 in
    let f : w / 4294967296 / 65536 ≡ w / 281474976710656 = div-div-eq-div-mul w 4294967296 65536 in
    let g : w / 4294967296 / 16777216 ≡ w / 72057594037927936 = div-div-eq-div-mul w 4294967296 16777216 in
    le_add 4 4 w
    ∙ ap (λ (t : List ℕ). t ++ le_bytes 4 (w / 4294967296)) (le-4 w)
    ∙ ap (λ (t : List ℕ). w % 256 ∷ w / 256 % 256 ∷ w / 65536 % 256 ∷ w / 16777216 % 256 ∷ t) (le-4 (w / 4294967296) ∙ rw (e, f, g))

-- eight bytes of a text, read as a number
part-small : (s : List ℕ) (i k : ℕ) → ((j : ℕ) → Fits w8 (get_or s j 0)) → get_or (take 8 (drop i s)) k 0 < 256
part-small s i k small = go (dec_lt k 8)
  where
    go : Dec (k < 8) → get_or (take 8 (drop i s)) k 0 < 256
    go (yes h) = rw (get_or-take 8 (drop i s) k 0 h, get_or-drop i s k 0) (small (i + k)).fits
    go (no h) =
        let past : length (take 8 (drop i s)) ≤ k = omega (arith, length-take {A = ℕ}) in
        rw (get_or_past (take 8 (drop i s)) k 0 past) (omega arith)

pub le-eight : (t : List ℕ) (n : ℕ) (s : List ℕ) (i : ℕ) → t ≡ take 8 (drop i s) → i + 8 ≤ length s → ((k : ℕ) → Fits w8 (get_or s k 0)) → n ≡ from_le_bytes w64 t → le_bytes 8 n ≡ take 8 (drop i s)
le-eight t n s i e h small is =
    let l : length t ≡ 8 = rw e (omega (arith, length-take {A = ℕ}, length-drop {A = ℕ})) in
    le-8 n ∙ le_bytes_8 t n l (λ k. rw e (part-small s i k small)) is ∙ e

-- bytes as a number, the lowest first
unfoldable pub value : List ℕ → ℕ
value [] = 0
value (b ∷ s) = value s * 256 + b

abbrev Bytes : List ℕ → Type 0
Bytes [] = Unit
Bytes (b ∷ s) = (b < 256) × Bytes s

-- a byte, and a number above it
le-cons : (w b m : ℕ) → b < 256 → le_bytes (suc w) (m * 256 + b) ≡ b ∷ le_bytes w m
unfolding le_bytes
le-cons w b m h =
    let e : (m * 256 + b) % 256 ≡ b = omega arith in
    let f : (m * 256 + b) / 256 ≡ m = omega arith in
    rw (e, f)

-- the bytes of a number are those that it was made of
le-value : (s : List ℕ) → Bytes s → le_bytes (length s) (value s) ≡ s
unfolding le_bytes value
le-value [] h = refl
le-value (b ∷ s) h = le-cons (length s) b (value s) h.0 ∙ ap (λ (t : List ℕ). b ∷ t) (le-value s h.1)

-- four and eight bytes, each times its power of 256, added up
pub le-sum-4 : (a b c d : ℕ) → a < 256 → b < 256 → c < 256 → d < 256 → le_bytes 4 (a + 256 * b + 65536 * c + 16777216 * d) ≡ a ∷ b ∷ c ∷ d ∷ []
unfolding value
le-sum-4 a b c d la lb lc ld =
    let s : List ℕ = a ∷ b ∷ c ∷ d ∷ [] in
    let q : a + 256 * b + 65536 * c + 16777216 * d ≡ value s = omega arith in
    ap (le_bytes 4) q ∙ le-value s (la, (lb, (lc, (ld, tt))))

pub le-sum : (a b c d e f g h : ℕ) → a < 256 → b < 256 → c < 256 → d < 256 → e < 256 → f < 256 → g < 256 → h < 256 → le_bytes 8 (a + 256 * b + 65536 * c + 16777216 * d + 4294967296 * e + 1099511627776 * f + 281474976710656 * g + 72057594037927936 * h) ≡ a ∷ b ∷ c ∷ d ∷ e ∷ f ∷ g ∷ h ∷ []
unfolding value
le-sum a b c d e f g h la lb lc ld le lf lg lh =
    let s : List ℕ = a ∷ b ∷ c ∷ d ∷ e ∷ f ∷ g ∷ h ∷ [] in
    let q : a + 256 * b + 65536 * c + 16777216 * d + 4294967296 * e + 1099511627776 * f + 281474976710656 * g + 72057594037927936 * h ≡ value s = omega arith in
    ap (le_bytes 8) q ∙ le-value s (la, (lb, (lc, (ld, (le, (lf, (lg, (lh, tt))))))))

-- v bytes, and a number above them
pub le-above : (v w a b : ℕ) → a < 256 ^ v → le_bytes (v + w) (a + 256 ^ v * b) ≡ le_bytes v a ++ le_bytes w b
unfolding le_bytes
le-above zero w a b h =
    let e : a + 1 * b ≡ b = omega arith in
    rw (zero-add w, e)
le-above (suc v) w a b h =
    let p = 256 ^ v in
    let l : a < 256 * p = rw (pow-succ' 256 v) at h in
    let e : a + 256 * p * b ≡ (a / 256 + p * b) * 256 + a % 256 = rw (mul_assoc 256 p b) (omega arith) in
    rw (suc-add v w, pow-succ' 256 v, e) (le-cons (v + w) (a % 256) (a / 256 + p * b) (omega arith) ∙ ap (λ (t : List ℕ). a % 256 ∷ t) (le-above v w (a / 256) b (omega arith)))

-- one byte n times, as the bytes of a word
pub take-replicate : (n m x : ℕ) → n ≤ m → take n (replicate m x) ≡ replicate n x
take-replicate zero m x h = refl
take-replicate (suc n) zero x h = let bad : ⊥ = omega arith in absurd bad
take-replicate (suc n) (suc m) x h = ap (λ (l : List ℕ). x ∷ l) (take-replicate n m x (omega arith))

pub le-repeated : (n x : ℕ) → n ≤ 8 → x < 256 → le_bytes n (x * 0x0101010101010101) ≡ replicate n x
le-repeated n x h b =
    let e : x * 0x0101010101010101 ≡ x + 256 * x + 65536 * x + 16777216 * x + 4294967296 * x + 1099511627776 * x + 281474976710656 * x + 72057594037927936 * x = omega arith in
    sym (take-le n 8 (x * 0x0101010101010101) h) ∙ ap (take n) (ap (le_bytes 8) e ∙ le-sum x x x x x x x x b b b b b b b b) ∙ take-replicate n 8 x h
