-- A heap in a list, over any order: what one exchange does to it. The parent of place c is (c - 1) / 2.
--     Whole     from lo on, below hi, no parent comes before its child; from hi on all is in order, and nothing comes before what stands below hi
--     Fine      the same, but for the place i: its children may come behind it, and do not come behind its parent
--     opened    the place before lo is added
--     closed    i is in its place
--     down      i is exchanged with the later of its children, which is then the place in question
--     taken     the first of a whole heap is exchanged with the last
--     in_order  with one place left, the list is sorted
-- Assumes nothing.
use mathlib.Core.Path.{◌≡◌, refl, sym, ap, ◌∙◌}
use mathlib.Core.Bool.{Bool, true, false}
use mathlib.Core.List.{List, [], ◌∷◌}
use Prim.Native.Nat.{ℕ, zero, suc, ◌+◌, ◌-◌, ◌/◌, ◌≤◌, ◌<◌}
use native.Mathlib.Omega.{arith}
use native.Mathlib.Decide.{ℕ_discrete}
use lib.ListN.{length, get_or, set, length-set}
use lib.Seq.{get_or-set_same, get_or-set_other, lt-length-set}
use Rattle.output.specs.Logic.{if}
use Rattle.field_index.specs.Sorted.{Order, many, Same, Sorted}
use Rattle.field_index.proofs.SortedLaws.{itself, by_places}

abbrev pub up : ℕ → ℕ
up c = (c - 1) / 2

up-below : (k m : ℕ) → 0 < k → k < m → up k ≡ m → ⊥
up-below k m h₁ h₂ e = omega arith

pub record Whole {A : Type 0} (b : A → A → Bool) (d : A) (v : List A) (lo hi : ℕ) : Type 0 where
  pub heap : (c : ℕ) → 0 < c → c < hi → lo ≤ up c → b (get_or v (up c) d) (get_or v c d) ≡ false
  pub tail : (x y : ℕ) → x ≤ y → hi ≤ y → y < length v → b (get_or v y d) (get_or v x d) ≡ false

pub record Fine {A : Type 0} (b : A → A → Bool) (d : A) (v : List A) (lo hi i : ℕ) : Type 0 where
  pub heap : (c : ℕ) → 0 < c → c < hi → lo ≤ up c → (up c ≡ i → ⊥) → b (get_or v (up c) d) (get_or v c d) ≡ false
  pub over : (c : ℕ) → 0 < c → c < hi → up c ≡ i → 0 < i → lo ≤ up i → b (get_or v (up i) d) (get_or v c d) ≡ false
  pub tail : (x y : ℕ) → x ≤ y → hi ≤ y → y < length v → b (get_or v y d) (get_or v x d) ≡ false

-- ---- two places exchanged
abbrev pub swapped : {A : Type 0} → A → List A → ℕ → ℕ → List A
swapped d v i c = set (set v i (get_or v c d)) c (get_or v i d)

-- what stands at place k after the exchange
data Seen {A : Type 0} (d : A) (v w : List A) (i c k : ℕ) : Type 0 where
  is-first : k ≡ i → get_or w k d ≡ get_or v c d → Seen d v w i c k
  is-second : k ≡ c → get_or w k d ≡ get_or v i d → Seen d v w i c k
  is-other : (k ≡ i → ⊥) → (k ≡ c → ⊥) → get_or w k d ≡ get_or v k d → Seen d v w i c k

module _ {A : Type 0} (d : A) (v : List A) (i c : ℕ) (hi : i < length v) (hc : c < length v) (ne : i < c) where
  pub swapped-length : length (swapped d v i c) ≡ length v
  swapped-length = length-set (set v i (get_or v c d)) c (get_or v i d) ∙ length-set v i (get_or v c d)

  seen : (k : ℕ) → Seen d v (swapped d v i c) i c k
  seen k = go (ℕ_discrete k i) (ℕ_discrete k c)
    where
      go : Dec (k ≡ i) → Dec (k ≡ c) → Seen d v (swapped d v i c) i c k
      go (yes p) q = is-first p (get_or-set_other (set v i (get_or v c d)) c k (get_or v i d) d (λ e. omega arith) ∙ ap (λ (m : ℕ). get_or (set v i (get_or v c d)) m d) p ∙ get_or-set_same v i (get_or v c d) d hi)
      go (no n) (yes p) = is-second p (ap (λ (m : ℕ). get_or (swapped d v i c) m d) p ∙ get_or-set_same (set v i (get_or v c d)) c (get_or v i d) d (lt-length-set v i (get_or v c d) hc))
      go (no n) (no m) = is-other n m (get_or-set_other (set v i (get_or v c d)) c k (get_or v i d) d m ∙ get_or-set_other v i k (get_or v c d) d n)

many-set : {A : Type 0} (d : A) (p : A → Bool) (l : List A) (i : ℕ) (e : A) → i < length l → many p (set l i e) + if (p (get_or l i d)) 1 0 ≡ many p l + if (p e) 1 0
many-set d p [] i e h = absurd (omega arith)
many-set d p (x ∷ l) zero e h = omega arith
many-set d p (x ∷ l) (suc i) e h = omega (arith, many-set d p l i e (omega arith))

pub swapped_same : {A : Type 0} (d : A) (v : List A) (i c : ℕ) → i < length v → c < length v → i < c → Same (swapped d v i c) v
swapped_same d v i c hi hc ne p =
    let w = set v i (get_or v c d) in
    let other : get_or w c d ≡ get_or v c d = get_or-set_other v i c (get_or v c d) d (λ e. omega arith) in
    let q : ◌≡◌ {A = ℕ} (if (p (get_or w c d)) 1 0) (if (p (get_or v c d)) 1 0) = ap (λ e. if (p e) 1 0) other in
    omega (arith, many-set d p v i (get_or v c d) hi, many-set d p w c (get_or v i d) (lt-length-set v i (get_or v c d) hc))

module _ {A : Type 0} (b : A → A → Bool) (o : Order b) (d : A) (v : List A) where
  -- the same fact at equal places
  at : {x y x' y' : A} → x ≡ x' → y ≡ y' → b x' y' ≡ false → b x y ≡ false
  at {x} {y} {x'} {y'} p q h = ap (λ (z : A). b z y) p ∙ ap (λ (z : A). b x' z) q ∙ h

  abbrev el : ℕ → A
  el k = get_or v k d

  move : {j k : ℕ} → j ≡ k → el j ≡ el k
  move p = ap el p

  pub opened : (lo hi : ℕ) → Whole b d v (suc lo) hi → Fine b d v lo hi lo
  opened lo hi w = record {
    heap = λ c h₁ h₂ h₃ n. w.heap c h₁ h₂ (go c h₃ n (ℕ_discrete (up c) lo));
    over = λ c h₁ h₂ e h₃ h₄. absurd (omega arith);
    tail = w.tail;
  }
    where
      go : (c : ℕ) → lo ≤ up c → (up c ≡ lo → ⊥) → Dec (up c ≡ lo) → suc lo ≤ up c
      go c h n (yes p) = absurd (n p)
      go c h n (no m) = omega arith

  pub closed : (lo hi i : ℕ) → Fine b d v lo hi i → ((c : ℕ) → 0 < c → c < hi → up c ≡ i → b (el i) (el c) ≡ false) → Whole b d v lo hi
  closed lo hi i f top = record { heap = λ c h₁ h₂ h₃. go c h₁ h₂ h₃ (ℕ_discrete (up c) i); tail = f.tail }
    where
      go : (c : ℕ) → 0 < c → c < hi → lo ≤ up c → Dec (up c ≡ i) → b (el (up c)) (el c) ≡ false
      go c h₁ h₂ h₃ (yes p) = at (move p) refl (top c h₁ h₂ p)
      go c h₁ h₂ h₃ (no n) = f.heap c h₁ h₂ h₃ n

  -- ---- a child goes up
  module _ (lo hi i c : ℕ) (f : Fine b d v lo hi i) (size : hi ≤ length v) (from : lo ≤ i) (pos : 0 < c) (inside : c < hi) (child : up c ≡ i)
      (less : b (el i) (el c) ≡ true) (top : (k : ℕ) → 0 < k → k < hi → up k ≡ i → b (el c) (el k) ≡ false) where
    abbrev w : List A
    w = swapped d v i c

    see : (k : ℕ) → Seen d v w i c k
    see = seen d v i c (omega arith) (omega arith) (omega arith)

    down_heap : (k : ℕ) → 0 < k → k < hi → lo ≤ up k → (up k ≡ c → ⊥) → Seen d v w i c k → Seen d v w i c (up k) → b (get_or w (up k) d) (get_or w k d) ≡ false
    down_heap k h₁ h₂ h₃ n (is-first p e) (is-first q g) = absurd (omega arith)
    down_heap k h₁ h₂ h₃ n (is-first p e) (is-second q g) = absurd (n q)
    down_heap k h₁ h₂ h₃ n (is-first p e) (is-other q r g) = at (g ∙ move (ap up p)) e (f.over c pos inside child (omega arith) (omega (arith, ap up p)))
    down_heap k h₁ h₂ h₃ n (is-second p e) (is-first q g) = at g e (o.one_way (el i) (el c) less)
    down_heap k h₁ h₂ h₃ n (is-second p e) (is-second q g) = absurd (n q)
    down_heap k h₁ h₂ h₃ n (is-second p e) (is-other q r g) = absurd (q (ap up p ∙ child))
    down_heap k h₁ h₂ h₃ n (is-other p s e) (is-first q g) = at g e (top k h₁ h₂ q)
    down_heap k h₁ h₂ h₃ n (is-other p s e) (is-second q g) = absurd (n q)
    down_heap k h₁ h₂ h₃ n (is-other p s e) (is-other q r g) = at g e (f.heap k h₁ h₂ h₃ q)

    down_over : (k : ℕ) → 0 < k → k < hi → up k ≡ c → lo ≤ up c → Seen d v w i c k → Seen d v w i c (up c) → b (get_or w (up c) d) (get_or w k d) ≡ false
    down_over k h₁ h₂ e h₃ (is-first p g) r = absurd (omega arith)
    down_over k h₁ h₂ e h₃ (is-second p g) r = absurd (omega arith)
    down_over k h₁ h₂ e h₃ (is-other p s g) (is-first q r) = at r g (at (move (sym e)) refl (f.heap k h₁ h₂ (omega arith) (λ z. omega arith)))
    down_over k h₁ h₂ e h₃ (is-other p s g) (is-second q r) = absurd (omega arith)
    down_over k h₁ h₂ e h₃ (is-other p s g) (is-other q t r) = absurd (q child)

    down_tail : (x y : ℕ) → x ≤ y → hi ≤ y → y < length v → Seen d v w i c x → Seen d v w i c y → b (get_or w y d) (get_or w x d) ≡ false
    down_tail x y h₁ h₂ h₃ s (is-first p e) = absurd (omega arith)
    down_tail x y h₁ h₂ h₃ s (is-second p e) = absurd (omega arith)
    down_tail x y h₁ h₂ h₃ (is-first q g) (is-other p r e) = at e g (f.tail c y (omega arith) h₂ h₃)
    down_tail x y h₁ h₂ h₃ (is-second q g) (is-other p r e) = at e g (f.tail i y (omega arith) h₂ h₃)
    down_tail x y h₁ h₂ h₃ (is-other q s g) (is-other p r e) = at e g (f.tail x y h₁ h₂ h₃)

    pub down : Fine b d w lo hi c
    down = record {
      heap = λ k h₁ h₂ h₃ n. down_heap k h₁ h₂ h₃ n (see k) (see (up k));
      over = λ k h₁ h₂ e h₃ h₄. down_over k h₁ h₂ e h₄ (see k) (see (up c));
      tail = λ x y h₁ h₂ h₃. down_tail x y h₁ h₂ (omega (arith, swapped-length d v i c (omega arith) (omega arith) (omega arith))) (see x) (see y);
    }

  -- ---- the first of a whole heap
  root : (hi : ℕ) → Whole b d v 0 hi → (fuel x : ℕ) → x ≤ fuel → x < hi → b (el 0) (el x) ≡ false
  root hi w zero zero h k = itself b o (el 0)
  root hi w zero (suc x) h k = absurd (omega arith)
  root hi w (suc fuel) zero h k = itself b o (el 0)
  root hi w (suc fuel) (suc x) h k = o.through (el (suc x)) (el (up (suc x))) (el 0) (w.heap (suc x) (omega arith) k (omega arith)) (root hi w fuel (up (suc x)) (omega arith) (omega arith))

  module _ (m : ℕ) (f : Whole b d v 0 (suc m)) (size : m < length v) (some : 0 < m) where
    abbrev w₀ : List A
    w₀ = swapped d v 0 m

    see₀ : (k : ℕ) → Seen d v w₀ 0 m k
    see₀ = seen d v 0 m (omega arith) (omega arith) (omega arith)

    most : (x : ℕ) → x < suc m → b (el 0) (el x) ≡ false
    most x h = root (suc m) f x x (omega arith) h

    taken_heap : (k : ℕ) → 0 < k → k < m → (up k ≡ 0 → ⊥) → Seen d v w₀ 0 m k → Seen d v w₀ 0 m (up k) → b (get_or w₀ (up k) d) (get_or w₀ k d) ≡ false
    taken_heap k h₁ h₂ n (is-first p e) s = absurd (omega arith)
    taken_heap k h₁ h₂ n (is-second p e) s = absurd (omega arith)
    taken_heap k h₁ h₂ n (is-other p q e) (is-first r g) = absurd (n r)
    taken_heap k h₁ h₂ n (is-other p q e) (is-second r g) = absurd (up-below k m h₁ h₂ r)
    taken_heap k h₁ h₂ n (is-other p q e) (is-other r s g) = at g e (f.heap k h₁ (omega arith) (omega arith))

    taken_tail : (x y : ℕ) → x ≤ y → m ≤ y → y < length v → Seen d v w₀ 0 m x → Seen d v w₀ 0 m y → b (get_or w₀ y d) (get_or w₀ x d) ≡ false
    taken_tail x y h₁ h₂ h₃ s (is-first p e) = absurd (omega arith)
    taken_tail x y h₁ h₂ h₃ (is-first q g) (is-second p e) = at e g (most m (omega arith))
    taken_tail x y h₁ h₂ h₃ (is-second q g) (is-second p e) = at e g (most 0 (omega arith))
    taken_tail x y h₁ h₂ h₃ (is-other q r g) (is-second p e) = at e g (most x (omega arith))
    taken_tail x y h₁ h₂ h₃ (is-first q g) (is-other p s e) = at e g (f.tail m y (omega arith) (omega arith) h₃)
    taken_tail x y h₁ h₂ h₃ (is-second q g) (is-other p s e) = at e g (f.tail 0 y (omega arith) (omega arith) h₃)
    taken_tail x y h₁ h₂ h₃ (is-other q r g) (is-other p s e) = at e g (f.tail x y h₁ (omega arith) h₃)

    pub taken : Fine b d w₀ 0 m 0
    taken = record {
      heap = λ k h₁ h₂ h₃ n. taken_heap k h₁ h₂ n (see₀ k) (see₀ (up k));
      over = λ k h₁ h₂ e h₃ h₄. absurd (omega arith);
      tail = λ x y h₁ h₂ h₃. taken_tail x y h₁ h₂ (omega (arith, swapped-length d v 0 m (omega arith) (omega arith) (omega arith))) (see₀ x) (see₀ y);
    }

  -- ---- the end, and the beginning
  pub in_order : (lo hi : ℕ) → Whole b d v lo hi → hi ≤ 1 → Sorted b v
  in_order lo hi w h = by_places b d v (λ i j l k. w.tail i j (omega arith) (omega arith) k)

  pub no_parent : Whole b d v (length v / 2) (length v)
  no_parent = record { heap = λ c h₁ h₂ h₃. absurd (omega arith); tail = λ x y h₁ h₂ h₃. absurd (omega arith) }
