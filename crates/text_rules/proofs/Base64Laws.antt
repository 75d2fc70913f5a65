-- Laws of base64 as it is written: a group of three bytes, whole groups before others, their numbers of six bits, and lengths. Assumes nothing.
use mathlib.Core.Path.{◌≡◌, refl, sym, ap, ◌∙◌}
use mathlib.Core.List.{List, [], ◌∷◌, ◌++◌, append_assoc, append-nil}
use Prim.Native.Nat.{ℕ, suc, ◌+◌, ◌-◌, ◌*◌, ◌/◌, ◌%◌, ◌<◌, ◌≤◌, min}
use mathlib.Core.Bool.{true}
use native.Mathlib.Decide.{dec_lt}
use native.Mathlib.Numerals.{add-one}
use native.Mathlib.Omega.{arith}
use lib.Dec.{leb}
use lib.ListN.{length, take, drop, get_or, set, length-drop, length-take, length-map, get_or-eq_default}
use lib.Seq.{sets, sets-eq, length-take-le, take-take, take-add, drop-drop, drop-cons, drop_at, drop-set-lt, take-append_seam, get_or-take, get_or-drop}
use borrow.Author.Tests.{leb-true}
use Rattle.output.specs.Logic.{byte}
use Rattle.output.specs.Wrote.{Wrote, limit, le_bytes}
use Rattle.output.proofs.Laws.{take-2, sets-append, sets_over}
use Rattle.output.proofs.Words.{take-le}
use Rattle.lanes.specs.Sextets.{sextets}
use Rattle.lanes.proofs.Table.{same}
use Rattle.text_rules.specs.Base64.{alphabet, base64_character, bits24, characters24, base64}
use Rattle.text_rules.specs.BlobSteps.{printed}
use Rattle.text_rules.proofs.Places.{byte_at}

-- ---- a character

-- n where v is m at least, else 0
abbrev pub step : ℕ → ℕ → ℕ → ℕ
step m n v = n * min 1 (v + 1 - m)

pub at_least_is : (m n v p : ℕ) → (v < m → p ≡ 0) × (m ≤ v → p ≡ n) → p ≡ step m n v
at_least_is m n v p f = go (dec_lt v m)
  where
    go : Dec (v < m) → p ≡ step m n v
    go (yes h) = let e : min 1 (v + 1 - m) ≡ 0 = omega arith in let g = f.0 h in rw e (omega arith)
    go (no h) = let e : min 1 (v + 1 - m) ≡ 1 = omega arith in let g = f.1 (omega arith) in rw e (omega arith)

abbrev pub summed : ℕ → ℕ
summed v = v + 65 + step 26 6 v + step 63 3 v - step 52 75 v

-- computed over the 64 numbers: the last difference is not below 0, and it is the character
pub character-fits : (v : ℕ) → v < 64 → step 62 15 v ≤ summed v
character-fits v h = leb-true (step 62 15 v) (summed v) (same (λ v. leb (step 62 15 v) (summed v)) (λ v. true) 64 refl v h)

pub character-is : (v : ℕ) → v < 64 → summed v - step 62 15 v ≡ base64_character v
unfolding base64_character alphabet
character-is = same (λ v. summed v - step 62 15 v) base64_character 64 refl

-- ---- one group

-- of 24 bits over a power of 64 the six lowest
low_two : (a q : ℕ) → (a * 16 + q) % 64 ≡ (a % 4 * 16 + q) % 64
low_two a q = omega arith

low_four : (a b q : ℕ) → (a * 1024 + b * 4 + q) % 64 ≡ (b % 16 * 4 + q) % 64
low_four a b q = omega arith

pub group : (a b c : ℕ) → a < 256 → b < 256 → c < 256 → characters24 (bits24 a b c) ≡ printed (a / 4 ∷ (a % 4 * 16 + b / 16) ∷ (b % 16 * 4 + c / 64) ∷ c % 64 ∷ [])
unfolding characters24 printed
group a b c la lb lc =
    let n : ℕ = bits24 a b c in
    let i : n / 262144 ≡ a / 4 % 64 = omega arith in
    let j : n / 4096 ≡ a * 16 + b / 16 = omega arith in
    let k : n / 64 ≡ a * 1024 + b * 4 + c / 64 = omega arith in
    let l : n % 64 ≡ c % 64 % 64 = omega arith in
    rw (i, j, k, l, low_two a (b / 16), low_four a b (c / 64))

pub base64_one : (a : ℕ) → a < 256 → base64 (a ∷ []) ≡ base64_character (a / 4 % 64) ∷ base64_character (a % 4 * 16 % 64) ∷ byte "=" ∷ byte "=" ∷ []
unfolding base64 characters24
base64_one a la =
    let n : ℕ = bits24 a 0 0 in
    let i : n / 262144 ≡ a / 4 % 64 = omega arith in
    let j : n / 4096 % 64 ≡ a % 4 * 16 % 64 = omega arith in
    rw (i, j)

pub base64_two : (a b : ℕ) → a < 256 → b < 256 → base64 (a ∷ b ∷ []) ≡ base64_character (a / 4 % 64) ∷ base64_character ((a % 4 * 16 + b / 16) % 64) ∷ base64_character (b % 16 * 4 % 64) ∷ byte "=" ∷ []
unfolding base64 characters24
base64_two a b la lb =
    let n : ℕ = bits24 a b 0 in
    let i : n / 262144 ≡ a / 4 % 64 = omega arith in
    let j : n / 4096 % 64 ≡ (a % 4 * 16 + b / 16) % 64 = omega arith in
    let k : n / 64 % 64 ≡ b % 16 * 4 % 64 = omega arith in
    rw (i, j, k)

pub base64-three : (a b c : ℕ) → a < 256 → b < 256 → c < 256 → base64 (a ∷ b ∷ c ∷ []) ≡ base64_character (a / 4 % 64) ∷ base64_character ((a % 4 * 16 + b / 16) % 64) ∷ base64_character ((b % 16 * 4 + c / 64) % 64) ∷ base64_character (c % 64 % 64) ∷ []
unfolding base64 printed
base64-three a b c la lb lc = ap (λ (l : List ℕ). l ++ []) (group a b c la lb lc)

-- ---- whole groups, and what is behind them

pub base64-append : (s t : List ℕ) → length s % 3 ≡ 0 → base64 (s ++ t) ≡ base64 s ++ base64 t
unfolding base64 characters24
base64-append [] t h = refl
base64-append (a ∷ []) t h = absurd (omega arith)
base64-append (a ∷ b ∷ []) t h = absurd (omega arith)
base64-append (a ∷ b ∷ c ∷ s) t h = ap (λ (l : List ℕ). characters24 (bits24 a b c) ++ l) (base64-append s t (omega arith))

pub sextets-append : (s t : List ℕ) → length s % 3 ≡ 0 → sextets (s ++ t) ≡ sextets s ++ sextets t
unfolding sextets
sextets-append [] t h = refl
sextets-append (a ∷ []) t h = absurd (omega arith)
sextets-append (a ∷ b ∷ []) t h = absurd (omega arith)
sextets-append (a ∷ b ∷ c ∷ s) t h = ap (λ (l : List ℕ). sextets (a ∷ b ∷ c ∷ []) ++ l) (sextets-append s t (omega arith))

-- ---- lengths

pub base64-length : (s : List ℕ) → length (base64 s) ≡ (length s + 2) / 3 * 4
unfolding base64 characters24
base64-length [] = refl
base64-length (a ∷ []) = refl
base64-length (a ∷ b ∷ []) = refl
base64-length (a ∷ b ∷ c ∷ s) = let e = base64-length s in omega arith

pub sextets-length : (s : List ℕ) → length (sextets s) ≡ length s / 3 * 4
unfolding sextets
sextets-length [] = refl
sextets-length (a ∷ []) = refl
sextets-length (a ∷ b ∷ []) = refl
sextets-length (a ∷ b ∷ c ∷ s) = let e = sextets-length s in omega arith

pub printed-length : (s : List ℕ) → length (printed s) ≡ length s
unfolding printed
printed-length s = length-map s _

-- whole groups of bytes are the characters of their numbers
pub base64-sextets : (s : List ℕ) → length s % 3 ≡ 0 → ((k : ℕ) → get_or s k 0 < 256) → base64 s ≡ printed (sextets s)
unfolding base64 sextets printed
base64-sextets [] h b = refl
base64-sextets (a ∷ []) h b = absurd (omega arith)
base64-sextets (a ∷ b ∷ []) h y = absurd (omega arith)
base64-sextets (a ∷ b ∷ c ∷ s) h y = rw (group a b c (y 0) (y 1) (y 2), base64-sextets s (omega arith) (λ k. y (suc (suc (suc k)))))

-- ---- parts of a text

part-next : (s : List ℕ) (i k m : ℕ) → take (k + m) (drop i s) ≡ take k (drop i s) ++ take m (drop (i + k) s)
part-next s i k m = take-add k m (drop i s) ∙ ap (λ (l : List ℕ). take k (drop i s) ++ take m l) (drop-drop k i s)

pub part_length : (s : List ℕ) (i k : ℕ) → i + k ≤ length s → length (take k (drop i s)) ≡ k
part_length s i k h = let e = length-drop i s in length-take-le k (drop i s) (omega arith)

pub part_bytes : (s : List ℕ) (i k : ℕ) → ((j : ℕ) → get_or s j 0 < 256) → (j : ℕ) → get_or (take k (drop i s)) j 0 < 256
part_bytes s i k b j = go (dec_lt j k)
  where
    go : Dec (j < k) → get_or (take k (drop i s)) j 0 < 256
    go (yes h) = rw (get_or-take k (drop i s) j 0 h, get_or-drop i s j 0) (b (i + j))
    go (no h) = let e = length-take k (drop i s) in rw (get_or-eq_default (take k (drop i s)) 0 {n = j} (omega arith)) (omega arith)

pub part-3 : (s : List ℕ) (i : ℕ) → i + 3 ≤ length s → take 3 (drop i s) ≡ get_or s i 0 ∷ get_or s (i + 1) 0 ∷ get_or s (i + 2) 0 ∷ []
part-3 s i h =
    let e : i + 1 + 1 ≡ i + 2 = omega arith in
    ap (take 3) (byte_at s i (omega arith)) ∙ ap (λ (l : List ℕ). get_or s i 0 ∷ l) (take-2 s (i + 1) (omega arith)) ∙ rw e

-- k bytes, whole groups, and m behind them
pub base64-next : (s : List ℕ) (i n k m : ℕ) → n ≡ k + m → k % 3 ≡ 0 → i + n ≤ length s → base64 (take n (drop i s)) ≡ base64 (take k (drop i s)) ++ base64 (take m (drop (i + k) s))
base64-next s i n k m j z h =
    ap (λ (x : ℕ). base64 (take x (drop i s))) j
    ∙ ap base64 (part-next s i k m)
    ∙ base64-append (take k (drop i s)) (take m (drop (i + k) s)) (rw (part_length s i k (omega arith)) z)

-- a turn that writes one group
pub base64-turn : (s : List ℕ) (i e w x y z : ℕ) → ((k : ℕ) → get_or s k 0 < 256) → i + 3 ≤ e → e ≤ length s → w ≡ base64_character (get_or s i 0 / 4 % 64) → x ≡ base64_character ((get_or s i 0 % 4 * 16 + get_or s (i + 1) 0 / 16) % 64) → y ≡ base64_character ((get_or s (i + 1) 0 % 16 * 4 + get_or s (i + 2) 0 / 64) % 64) → z ≡ base64_character (get_or s (i + 2) 0 % 64 % 64) → base64 (take (e - i) (drop i s)) ≡ w ∷ x ∷ y ∷ z ∷ base64 (take (e - (i + 3)) (drop (i + 3) s))
base64-turn s i e w x y z b h g ew ex ey ez =
    let m : ℕ = e - (i + 3) in
    base64-next s i (e - i) 3 m (omega arith) refl (omega arith)
    ∙ ap (λ (l : List ℕ). base64 l ++ base64 (take m (drop (i + 3) s))) (part-3 s i (omega arith))
    ∙ ap (λ (l : List ℕ). l ++ base64 (take m (drop (i + 3) s))) (base64-three (get_or s i 0) (get_or s (i + 1) 0) (get_or s (i + 2) 0) (b i) (b (i + 1)) (b (i + 2)))
    ∙ rw (ew, ex, ey, ez)

-- a turn that stores their numbers, where e is the end: what is left
pub sextets-turn : (s l l' w : List ℕ) (p i k e : ℕ) → k % 3 ≡ 0 → i + k ≤ e → e ≤ length s → w ≡ sextets (take k (drop i s)) → l' ≡ sets l p w → sets l p (sextets (take (e - i) (drop i s))) ≡ sets l' (p + k / 3 * 4) (sextets (take (e - (i + k)) (drop (i + k) s)))
sextets-turn s l l' w p i k e z h g f d =
    let a : List ℕ = take k (drop i s) in
    let m : ℕ = e - (i + k) in
    let b : List ℕ = take m (drop (i + k) s) in
    let n : length a ≡ k = part_length s i k (omega arith) in
    let j : e - i ≡ k + m = omega arith in
    let q : length (sextets a) ≡ k / 3 * 4 = sextets-length a ∙ ap (λ (x : ℕ). x / 3 * 4) n in
    ap (λ (x : ℕ). sets l p (sextets (take x (drop i s)))) j
    ∙ ap (sets l p) (ap sextets (part-next s i k m) ∙ sextets-append a b (rw n z))
    ∙ sym (sets-append l p (sextets a) (sextets b))
    ∙ ap (λ (x : ℕ). sets (sets l p (sextets a)) (p + x) (sextets b)) q
    ∙ ap (λ (x : List ℕ). sets x (p + k / 3 * 4) (sextets b)) (sym (d ∙ ap (sets l p) f))

-- ---- words

-- six of a word's eight bytes
pub spread-8 : (w r : ℕ) (t : List ℕ) → le_bytes 8 w ≡ take 8 t → le_bytes 8 r ≡ sextets (le_bytes 6 w) → le_bytes 8 r ≡ sextets (take 6 t)
spread-8 w r t e f = f ∙ ap sextets (sym (take-le 6 8 w (omega arith)) ∙ ap (take 6) e ∙ take-take 6 8 t (omega arith))

-- three bytes
pub spread-4 : (a b c r : ℕ) → a < 256 → b < 256 → c < 256 → le_bytes 8 r ≡ sextets (le_bytes 6 (a + 256 * b + 65536 * c)) → le_bytes 4 r ≡ sextets (a ∷ b ∷ c ∷ [])
unfolding le_bytes sextets
spread-4 a b c r la lb lc f =
    let x : ℕ = a + 256 * b + 65536 * c in
    let i : x % 256 ≡ a = omega arith in
    let j : x / 256 ≡ b + 256 * c = omega arith in
    let k : (b + 256 * c) % 256 ≡ b = omega arith in
    let l : (b + 256 * c) / 256 ≡ c = omega arith in
    let m : c % 256 ≡ c = omega arith in
    sym (take-le 4 8 r (omega arith)) ∙ ap (take 4) f ∙ rw (i, j, k, l, m)

-- ---- in place

-- what was stored stands there
stored : (l s : List ℕ) (p : ℕ) → p + length s ≤ length l → take (length s) (drop p (sets l p s)) ≡ s
stored l s p h =
    let d : List ℕ = drop (p + length s) l in
    ap (λ (k : List ℕ). take (length s) (drop p k)) (sets-eq s l p h ∙ append_assoc (take p l) s d)
    ∙ ap (take (length s)) (drop_at (take p l) (s ++ d) p (length-take-le p l (omega arith)))
    ∙ take-append_seam s d

-- numbers, and then their characters in place of them
printed_over : (l s : List ℕ) (p : ℕ) → p + length s ≤ length l → sets (sets l p s) p (printed (take (length s) (drop p (sets l p s)))) ≡ sets l p (printed s)
printed_over l s p h =
    ap (λ (k : List ℕ). sets (sets l p s) p (printed k)) (stored l s p h)
    ∙ ap (λ (k : List ℕ). sets (sets l p k) p (printed s)) (sym (append-nil s))
    ∙ sets_over s (printed s) [] l p (sym (printed-length s))
    ∙ ap (sets l p) (append-nil (printed s))

-- a turn that puts one character in place of a number: what is left
pub printed-turn : (l : List ℕ) (i to x : ℕ) → i < to → to ≤ length l → x ≡ base64_character (get_or l i 0 % 64) → sets l i (printed (take (to - i) (drop i l))) ≡ sets (set l i x) (i + 1) (printed (take (to - (i + 1)) (drop (i + 1) (set l i x))))
unfolding printed
printed-turn l i to x h g e =
    let j : to - i ≡ suc (to - (i + 1)) = omega arith in
    rw (j, add-one i, drop-cons l i 0 (omega arith), drop-set-lt (suc i) l i x (omega arith), e)

-- whole groups written so
pub wrote_whole : (a b d t : List ℕ) (p r : ℕ) → length t % 3 ≡ 0 → ((k : ℕ) → get_or t k 0 < 256) → length a < limit → r ≡ p + length t / 3 * 4 → r ≤ length a → b ≡ sets a p (sextets t) → d ≡ sets b p (printed (take (r - p) (drop p b))) → Wrote a d p r (base64 t)
wrote_whole a b d t p r z y room e h f g =
    let n = sextets-length t in
    let m = base64-length t in
    let j : r - p ≡ length (sextets t) = omega arith in
    record {
      bytes =
          g
          ∙ ap (λ (x : List ℕ). sets x p (printed (take (r - p) (drop p x)))) f
          ∙ ap (λ (k : ℕ). sets (sets a p (sextets t)) p (printed (take k (drop p (sets a p (sextets t)))))) j
          ∙ printed_over a (sextets t) p (omega arith)
          ∙ ap (sets a p) (sym (base64-sextets t z y));
      count = omega arith;
      room = room;
    }
