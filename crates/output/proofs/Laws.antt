-- Laws of laying text into a buffer. Assumes nothing.
use mathlib.Core.Path.{◌≡◌, refl, sym, ap, subst, ◌∙◌}
use mathlib.Core.List.{List, [], ◌∷◌, ◌++◌, append_assoc, append-nil}
use Prim.Native.Nat.{ℕ, zero, suc, ◌+◌, ◌-◌, ◌/◌, ◌≤◌, ◌<◌, min}
use native.Mathlib.Nat.{add-zero, add-suc, suc-add}
use native.Mathlib.Decide.{dec_le}
use native.Mathlib.Numerals.{add-one}
use native.Mathlib.Omega.{arith}
use lib.ListN.{length, take, drop, get_or, set, length-append, length-take, length-drop, take-append-drop}
use borrow.Rule.Slice.PartMut.{put_mid}
use lib.Seq.{sets, sets-eq, length-sets, set_out, set-set, set_comm, take-length, length-take-le, take_all, take-add, drop-drop, drop-cons}
use Rattle.output.specs.Wrote.{Wrote, limit, le_bytes}

-- past the end nothing is stored
pub sets-out : (l : List ℕ) (i : ℕ) (s : List ℕ) → length l ≤ i → sets l i s ≡ l
sets-out l i [] h = refl
sets-out l i (x ∷ s) h =
    ap (λ (k : List ℕ). sets k (suc i) s) (set_out l i x h) ∙ sets-out l (suc i) s (omega arith)

-- s, and t behind it, is s ++ t
pub sets-append : (l : List ℕ) (i : ℕ) (s t : List ℕ) → sets (sets l i s) (i + length s) t ≡ sets l i (s ++ t)
sets-append l i [] t = ap (λ (k : ℕ). sets l k t) (add-zero i)
sets-append l i (x ∷ s) t =
    ap (λ (k : ℕ). sets (sets (set l i x) (suc i) s) k t) (add-suc i (length s) ∙ sym (suc-add i (length s)))
    ∙ sets-append (set l i x) (suc i) s t

-- s in the place of a part of its length
pub sets-part : (l v s : List ℕ) (p k : ℕ) → length s ≡ k → p + k ≤ length l → v ≡ s → put_mid p k l v ≡ sets l p s
sets-part l v s p k e h q =
    let room : p + length s ≤ length l = omega arith in
    rw (q, drop-drop k p l, ← e, ← append_assoc (take p l) s (drop (p + length s) l)) (sym (sets-eq s l p room))

-- a position at the limit is as good as any other past it
sets-clip : (l : List ℕ) (i : ℕ) (s : List ℕ) → length l < limit → sets l (min i limit) s ≡ sets l i s
sets-clip l i s room = go (dec_le i limit)
  where
    go : Dec (i ≤ limit) → sets l (min i limit) s ≡ sets l i s
    go (yes h) = let e : min i limit ≡ i = omega arith in rw e
    go (no h) = sets-out l (min i limit) s (omega arith) ∙ sym (sets-out l i s (omega arith))

-- nothing is written from a position, which is then bounded
pub wrote_empty : (a : List ℕ) (p r : ℕ) → r ≡ min p limit → length a < limit → Wrote a a p r []
wrote_empty a p r e room = record { bytes = refl; count = omega arith; room = room }

pub wrote_none : (a : List ℕ) (p : ℕ) → p ≤ limit → length a < limit → Wrote a a p p []
wrote_none a p h room = wrote_empty a p p (omega arith) room

-- past the buffer's end nothing is stored, and all n bytes are counted
pub wrote-past : (a : List ℕ) (p r n : ℕ) (s : List ℕ) → length a ≤ p → length a < limit → length s ≡ n → r ≡ min (p + n) limit → Wrote a a p r s
wrote-past a p r n s h room l e = record { bytes = sym (sets-out a p s h); count = e ∙ ap (λ (k : ℕ). min (p + k) limit) (sym l); room = room }

pub wrote-length : {a b : List ℕ} {p r : ℕ} {s : List ℕ} → Wrote a b p r s → length b ≡ length a
wrote-length {a} {b} {p} {r} {s} w = ap length w.bytes ∙ length-sets a p s

pub wrote-bound : {a b : List ℕ} {p r : ℕ} {s : List ℕ} → Wrote a b p r s → r ≤ limit
wrote-bound w = let e = w.count in omega arith

-- one text after another
pub wrote_then : {a b c : List ℕ} {p q r : ℕ} {s t : List ℕ} → Wrote a b p q s → Wrote b c q r t → Wrote a c p r (s ++ t)
wrote_then {a} {b} {c} {p} {q} {r} {s} {t} v w =
    let q' = v.count in
    let r' = w.count in
    record {
      bytes =
          w.bytes
          ∙ ap (λ (k : ℕ). sets b k t) q'
          ∙ sets-clip b (p + length s) t w.room
          ∙ ap (λ (l : List ℕ). sets l (p + length s) t) v.bytes
          ∙ sets-append a p s t;
      count = simp length-append (omega arith);
      room = v.room;
    }

sets-shift : (x : ℕ) (l : List ℕ) (i : ℕ) (s : List ℕ) → sets (x ∷ l) (suc i) s ≡ x ∷ sets l i s
sets-shift x l i [] = refl
sets-shift x l i (y ∷ s) = sets-shift x (set l i y) (suc i) s

-- from the start: the text, clipped, and what it leaves
pub sets-front : (l s : List ℕ) → sets l 0 s ≡ take (length l) (s ++ drop (length s) l)
sets-front l [] = sym (take-length l)
sets-front [] (x ∷ s) = sets-out [] 1 s (omega arith)
sets-front (y ∷ l) (x ∷ s) = sets-shift x l 0 s ∙ ap (λ (k : List ℕ). x ∷ k) (sets-front l s)

-- ---- a text that is stored again

-- a store before a text is the same before it as after it
pub set-sets : (u m : List ℕ) (i j : ℕ) (y : ℕ) → i < j → set (sets m j u) i y ≡ sets (set m i y) j u
set-sets [] m i j y h = refl
set-sets (z ∷ u) m i j y h =
    set-sets u (set m j z) i (suc j) y (omega arith)
    ∙ ap (λ (k : List ℕ). sets k (suc j) u) (set_comm m j i z y (λ (e : j ≡ i). omega arith))

pub sets_over : (s s' t l : List ℕ) (i : ℕ) → length s ≡ length s' → sets (sets l i (s ++ t)) i s' ≡ sets l i (s' ++ t)
sets_over [] [] t l i h = refl
sets_over [] (y ∷ s') t l i h = let bad : ⊥ = omega arith in absurd bad
sets_over (x ∷ s) [] t l i h = let bad : ⊥ = omega arith in absurd bad
sets_over (x ∷ s) (y ∷ s') t l i h =
    ap (λ (k : List ℕ). sets k (suc i) s') (set-sets (s ++ t) (set l i x) i (suc i) y (omega arith) ∙ ap (λ (k : List ℕ). sets k (suc i) (s ++ t)) (set-set l i x y))
    ∙ sets_over s s' t (set l i y) (suc i) (omega arith)

-- ---- stores that overlap, and stores that are cut off

-- what is stored twice is as it was stored last
pub sets-twice : (s t l : List ℕ) (i : ℕ) (u : List ℕ) → length s ≡ length t → sets (sets l i s) i (t ++ u) ≡ sets l i (t ++ u)
sets-twice s t l i u h =
    sym (sets-append (sets l i s) i t u)
    ∙ ap (λ (k : List ℕ). sets k (i + length t) u) (ap (λ (v : List ℕ). sets (sets l i v) i t) (sym (append-nil s)) ∙ sets_over s t [] l i h ∙ ap (sets l i) (append-nil t))
    ∙ sets-append l i t u

-- what stands behind a text is overwritten by what is longer
pub sets_behind : (l s j t : List ℕ) (p : ℕ) → length j ≤ length t → sets (sets l p (s ++ j)) (p + length s) t ≡ sets l p (s ++ t)
sets_behind l s j t p h =
    let k = length j in
    let e : length j ≡ length (take k t) = simp length-take (omega arith) in
    ap (λ (x : List ℕ). sets x (p + length s) t) (sym (sets-append l p s j))
    ∙ ap (λ (x : List ℕ). sets (sets (sets l p s) (p + length s) j) (p + length s) x) (sym (take-append-drop k t))
    ∙ sets-twice j (take k t) (sets l p s) (p + length s) (drop k t) e
    ∙ ap (λ (x : List ℕ). sets (sets l p s) (p + length s) x) (take-append-drop k t)
    ∙ sets-append l p s t

-- the next k bytes of a text, behind the i that are stored
pub sets-next : (s l : List ℕ) (p i k : ℕ) → i ≤ length s → sets (sets l p (take i s)) (p + i) (take k (drop i s)) ≡ sets l p (take (i + k) s)
sets-next s l p i k h =
    ap (λ (j : ℕ). sets (sets l p (take i s)) (p + j) (take k (drop i s))) (sym (length-take-le i s h))
    ∙ sets-append l p (take i s) (take k (drop i s))
    ∙ ap (sets l p) (sym (take-add i k s))

-- the first i bytes of a text and then all from m on, which overlap, are the text
pub sets-again : (s l : List ℕ) (p i m : ℕ) → m ≤ i → i ≤ length s → sets (sets l p (take i s)) (p + m) (drop m s) ≡ sets l p s
sets-again s l p i m h g =
    let w : ℕ = i - m in
    let x : List ℕ = take m s in
    let y : List ℕ = drop m s in
    let lx : length x ≡ m = length-take-le m s (omega arith) in
    let e : take i s ≡ x ++ take w y = ap (λ (j : ℕ). take j s) (let q : i ≡ m + w = omega arith in q) ∙ take-add m w s in
    let yy : y ≡ take w y ++ drop w y = sym (take-append-drop w y) in
    ap (λ (z : List ℕ). sets (sets l p (take i s)) (p + m) z) yy
    ∙ ap (λ (z : List ℕ). sets (sets l p z) (p + m) (take w y ++ drop w y)) e
    ∙ ap (λ (z : List ℕ). sets z (p + m) (take w y ++ drop w y)) (sym (sets-append l p x (take w y)) ∙ ap (λ (j : ℕ). sets (sets l p x) (p + j) (take w y)) lx)
    ∙ sets-twice (take w y) (take w y) (sets l p x) (p + m) (drop w y) refl
    ∙ ap (λ (z : List ℕ). sets (sets l p x) (p + m) z) (sym yy)
    ∙ ap (λ (j : ℕ). sets (sets l p x) (p + j) y) (sym lx)
    ∙ sets-append l p x y
    ∙ ap (sets l p) (take-append-drop m s)

-- the first i bytes of a text and then its last k, which overlap, are the text
pub sets_last : (s l : List ℕ) (p i k : ℕ) → k ≤ length s → i ≤ length s → length s ≤ i + k → sets (sets l p (take i s)) (p + (length s - k)) (take k (drop (length s - k) s)) ≡ sets l p s
sets_last s l p i k h g j =
    let m : ℕ = length s - k in
    let n = length-drop m s in
    ap (λ (z : List ℕ). sets (sets l p (take i s)) (p + m) z) (take_all k (drop m s) (omega arith))
    ∙ sets-again s l p i m (omega arith) g

-- the first k bytes of a text and then its last k, which overlap, are the text
pub sets-lap : (s l : List ℕ) (i k : ℕ) → k ≤ length s → length s ≤ k + k → sets (sets l i (take k s)) (i + (length s - k)) (take k (drop (length s - k) s)) ≡ sets l i s
sets-lap s l i k h g = sets_last s l i k k h h g

-- of a text only what there is room for is stored
pub sets-room : (l s : List ℕ) (i n : ℕ) → n ≡ min (length s) (length l - i) → sets l i (take n s) ≡ sets l i s
sets-room l s i n h = go (dec_le (length s) n)
  where
    go : Dec (length s ≤ n) → sets l i (take n s) ≡ sets l i s
    go (yes g) = ap (sets l i) (take_all n s g)
    go (no g) =
        let k = length-take-le n s (omega arith) in
        let o = length-sets l i (take n s) in
        sym (sets-out (sets l i (take n s)) (i + length (take n s)) (drop n s) (omega arith)) ∙ sets-append l i (take n s) (drop n s) ∙ ap (sets l i) (take-append-drop n s)

-- two, four and eight bytes of a text
pub take-2 : (s : List ℕ) (i : ℕ) → i + 2 ≤ length s → take 2 (drop i s) ≡ get_or s i 0 ∷ get_or s (i + 1) 0 ∷ []
take-2 s i h = ap (take 2) (drop-cons s i 0 (omega arith)) ∙ ap (λ (t : List ℕ). get_or s i 0 ∷ take 1 t) (drop-cons s (suc i) 0 (omega arith)) ∙ rw (add-one i)

pub take-4 : (s : List ℕ) (i : ℕ) → i + 4 ≤ length s → take 4 (drop i s) ≡ get_or s i 0 ∷ get_or s (i + 1) 0 ∷ get_or s (i + 2) 0 ∷ get_or s (i + 3) 0 ∷ []
take-4 s i h =
    let e : i + 2 + 1 ≡ i + 3 = omega arith in
    take-add 2 2 (drop i s)
    ∙ ap (λ (t : List ℕ). t ++ take 2 (drop 2 (drop i s))) (take-2 s i (omega arith))
    ∙ ap (λ (t : List ℕ). get_or s i 0 ∷ get_or s (i + 1) 0 ∷ take 2 t) (drop-drop 2 i s)
    ∙ ap (λ (t : List ℕ). get_or s i 0 ∷ get_or s (i + 1) 0 ∷ t) (take-2 s (i + 2) (omega arith))
    ∙ rw e

-- ---- a loop that writes: what it wrote so far, and what is left of the whole

pub record Progress (a b : List ℕ) (pos p : ℕ) (whole left : List ℕ) : Type 0 where
  pub done : List ℕ
  pub wrote : Wrote a b pos p done
  pub splits : whole ≡ done ++ left

pub begin : (a : List ℕ) (p r : ℕ) (whole : List ℕ) → r ≡ min p limit → length a < limit → Progress a a p r whole whole
begin a p r whole e room = record { done = []; wrote = wrote_empty a p r e room; splits = refl }

pub start : (a : List ℕ) (p : ℕ) (whole : List ℕ) → p ≤ limit → length a < limit → Progress a a p p whole whole
start a p whole h room = begin a p p whole (omega arith) room

-- one text more
pub more : {a b c : List ℕ} {pos p q : ℕ} {whole s left left' : List ℕ} → Progress a b pos p whole left → Wrote b c p q s → left ≡ s ++ left' → Progress a c pos q whole left'
more {s = s} {left' = left'} g w e = record {
  done = g.done ++ s;
  wrote = wrote_then g.wrote w;
  splits = g.splits ∙ ap (λ (l : List ℕ). g.done ++ l) e ∙ sym (append_assoc g.done s left');
}

-- nothing is left
pub finish : {a b : List ℕ} {pos p : ℕ} {whole left : List ℕ} → Progress a b pos p whole left → left ≡ [] → Wrote a b pos p whole
finish {a} {b} {pos} {p} g e =
    subst (λ (l : List ℕ). Wrote a b pos p l) (sym (g.splits ∙ ap (λ (l : List ℕ). g.done ++ l) e ∙ append-nil g.done)) g.wrote

-- ---- a header that is written again, of the same length, once the body behind it stands

pub length-le : (w n : ℕ) → length (le_bytes w n) ≡ w
unfolding le_bytes
length-le zero n = refl
length-le (suc w) n = ap suc (length-le w (n / 256))

-- a store behind a text is the same before it as after it
pub set-sets-behind : (u m : List ℕ) (i j : ℕ) (y : ℕ) → i + length u ≤ j → set (sets m i u) j y ≡ sets (set m j y) i u
set-sets-behind [] m i j y h = refl
set-sets-behind (z ∷ u) m i j y h =
    set-sets-behind u (set m i z) (suc i) j y (omega arith)
    ∙ ap (λ (k : List ℕ). sets k (suc i) u) (set_comm m i j z y (λ (e : i ≡ j). omega arith))
