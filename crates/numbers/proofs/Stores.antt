-- Stores behind and over each other, as the code of decimals and timestamps makes them, and the bytes of words of digits. Assumes
-- nothing.
use mathlib.Core.Path.{◌≡◌, refl, sym, ap, ◌∙◌}
use mathlib.Core.List.{List, [], ◌∷◌, ◌++◌, append_assoc}
use Prim.Native.Nat.{ℕ, suc, ◌+◌, ◌-◌, ◌/◌, ◌^◌, ◌≤◌, ◌<◌}
use native.Mathlib.Nat.{add-suc}
use native.Mathlib.Numerals.{add-one}
use native.Mathlib.Omega.{arith}
use lib.ListN.{length, take, drop, get_or, set, length-append, length-set, take-append-drop}
use lib.Seq.{sets, length-sets, set-get_or, length-take-le}
use Rattle.output.specs.Wrote.{Wrote, limit, le_bytes}
use Rattle.output.proofs.Laws.{sets-append, set-sets, sets_over, length-le}
use Rattle.output.proofs.Words.{take-le, drop_le}
use Rattle.text_rules.specs.Digits.{pad}
use Rattle.text_rules.proofs.DigitWords.{sets_behind}

-- a text of k bytes, for which there is room
pub wrote_here : {a b : List ℕ} {p : ℕ} {s : List ℕ} (k : ℕ) → b ≡ sets a p s → length s ≡ k → p + k ≤ length a → length a < limit → Wrote a b p (p + k) s
wrote_here k h e f g = record { bytes = h; count = omega arith; room = g }

-- a byte and a text, stored, leave the length
pub length_mark : (a b : List ℕ) (i x j : ℕ) (s : List ℕ) → b ≡ sets (set a i x) j s → length b ≡ length a
length_mark a b i x j s h = ap length h ∙ length-sets (set a i x) j s ∙ length-set a i x

-- t behind the k bytes of s
pub sets_then : (l : List ℕ) (p : ℕ) (s t : List ℕ) (k : ℕ) → length s ≡ k → sets (sets l p s) (p + k) t ≡ sets l p (s ++ t)
sets_then l p s t k h = ap (λ (j : ℕ). sets (sets l p s) (p + j) t) (sym h) ∙ sets-append l p s t

-- a byte and t behind the k bytes of s
pub sets_mark : (l x y : List ℕ) (p : ℕ) (s u t : List ℕ) (k b : ℕ) → length s ≡ k → x ≡ sets l p s → y ≡ sets (set x (p + k) b) (p + suc k) u → u ≡ t → y ≡ sets l p (s ++ (b ∷ t))
sets_mark l x y p s u t k b h e f g =
    f
    ∙ ap (λ (z : List ℕ). sets (set z (p + k) b) (p + suc k) u) e
    ∙ ap (λ (z : List ℕ). sets (set (sets l p s) (p + k) b) (p + suc k) z) g
    ∙ ap (λ (i : ℕ). sets (set (sets l p s) (p + k) b) i t) (add-suc p k)
    ∙ sets_then l p s (b ∷ t) k h

-- k bytes of a word, and two bytes twice, each behind a byte
pub two_marks : (l a b d : List ℕ) (p k u v w x y : ℕ) → a ≡ sets l p (le_bytes k u) → b ≡ sets (set a (p + k) x) (p + suc k) (le_bytes 2 v) → d ≡ sets (set b (p + (k + 3)) y) (p + suc (k + 3)) (le_bytes 2 w) → d ≡ sets l p (le_bytes k u ++ (x ∷ le_bytes 2 v) ++ (y ∷ le_bytes 2 w))
two_marks l a b d p k u v w x y ea eb ed =
    let s = le_bytes k u ++ (x ∷ le_bytes 2 v) in
    let n : length s ≡ k + 3 = length-append (le_bytes k u) (x ∷ le_bytes 2 v) ∙ omega (arith, length-le k u, length-le 2 v) in
    sets_mark l b d p s (le_bytes 2 w) (le_bytes 2 w) (k + 3) y n (sets_mark l a b p (le_bytes k u) (le_bytes 2 v) (le_bytes 2 v) k x (length-le k u) ea eb refl) ed refl

-- a text one place on, then its first k bytes in their own place, and a byte between
pub sets-between : (d l : List ℕ) (p k x : ℕ) → k ≤ length d → set (sets (sets l (p + 1) d) p (take k d)) (p + k) x ≡ sets l p (take k d ++ (x ∷ drop k d))
sets-between d l p k x h =
    let y : ℕ = get_or l p 0 in
    let s : List ℕ = take k d in
    let e : sets l (p + 1) d ≡ sets l p ((y ∷ s) ++ drop k d) =
    ap (λ (i : ℕ). sets l i d) (add-one p)
    ∙ ap (λ (m : List ℕ). sets m (suc p) d) (sym (set-get_or l p 0))
    ∙ ap (λ (t : List ℕ). sets (set l p y) (suc p) t) (sym (take-append-drop k d)) in
    ap (λ (m : List ℕ). set (sets m p s) (p + k) x) e
    ∙ sets_then (sets l p ((y ∷ s) ++ drop k d)) p s (x ∷ []) k (length-take-le k d h)
    ∙ sets_over (y ∷ s) (s ++ (x ∷ [])) (drop k d) l p (sym (length-append s (x ∷ []) ∙ add-one (length s)))
    ∙ ap (sets l p) (append_assoc s (x ∷ []) (drop k d))

-- a text in its own place, then what it has behind its first k bytes one place on, and a byte between
pub sets_onward : (d l : List ℕ) (p k x : ℕ) → k ≤ length d → set (sets (sets l p d) (p + k + 1) (drop k d)) (p + k) x ≡ sets l p (take k d ++ (x ∷ drop k d))
sets_onward d l p k x h =
    let s : List ℕ = take k d in
    let t : List ℕ = drop k d in
    ap (λ (i : ℕ). set (sets (sets l p d) i t) (p + k) x) (add-one (p + k))
    ∙ set-sets t (sets l p d) (p + k) (suc (p + k)) x (omega arith)
    ∙ ap (λ (m : List ℕ). sets (sets l p m) (p + k) (x ∷ t)) (sym (take-append-drop k d))
    ∙ ap (λ (i : ℕ). sets (sets l p (s ++ t)) (p + i) (x ∷ t)) (sym (length-take-le k d h))
    ∙ sets_behind l s t (x ∷ t) p (omega arith)

-- ---- the bytes of a word

-- j bytes of w, the first k passed
pub le_part : (k j w n : ℕ) → j + k ≤ w → le_bytes j (n / 256 ^ k) ≡ take j (drop k (le_bytes w n))
le_part k j w n h = sym (take-le j (w - k) (n / 256 ^ k) (omega arith)) ∙ ap (take j) (sym (drop_le k w n))

-- a word of four numbers of two digits
module _ (w a b c d : ℕ) (h : le_bytes 8 w ≡ pad 2 a ++ pad 2 b ++ pad 2 c ++ pad 2 d) where
  pub pair-1 : le_bytes 2 w ≡ pad 2 a
  unfolding pad
  pair-1 = sym (take-le 2 8 w (omega arith)) ∙ ap (take 2) h

  pub pair-2 : le_bytes 2 (w / 65536) ≡ pad 2 b
  unfolding pad
  pair-2 = le_part 2 2 8 w (omega arith) ∙ ap (λ (s : List ℕ). take 2 (drop 2 s)) h

  pub pair-3 : le_bytes 2 (w / 4294967296) ≡ pad 2 c
  unfolding pad
  pair-3 = le_part 4 2 8 w (omega arith) ∙ ap (λ (s : List ℕ). take 2 (drop 4 s)) h

  pub pair-4 : le_bytes 2 (w / 281474976710656) ≡ pad 2 d
  unfolding pad
  pair-4 = le_part 6 2 8 w (omega arith) ∙ ap (λ (s : List ℕ). take 2 (drop 6 s)) h

  pub pairs-12 : le_bytes 4 w ≡ pad 2 a ++ pad 2 b
  unfolding pad
  pairs-12 = sym (take-le 4 8 w (omega arith)) ∙ ap (take 4) h
