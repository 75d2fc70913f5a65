-- The turns of a heapsort, over any order on entries.
--     Good, weight    where a sort stands, and how many turns it still takes at most; `deep` is the depth of the place in question
--     started         at the start
--     turned_good     a turn: the same entries, good again, and the weight falls
--     height, falls   a plainer bound of the turns that are left, which the depth is no part of, and that a turn makes it less
--     ended           at the end the list is sorted
--     heapsorted-is   so a heapsort is over after at most (n / 2 + n) (D + 2) turns, D being the number of n's binary digits, and leaves the sorted list, whatever the list
-- Assumes nothing.
use mathlib.Core.Path.{◌≡◌, refl, sym, ap, subst, ◌∙◌}
use mathlib.Core.Bool.{Bool, true, false}
use mathlib.Core.Logic.{◌⊎◌, inl, inr}
use mathlib.Core.List.{List}
use mathlib.Core.Option.{some}
use Prim.Native.Nat.{ℕ, zero, suc, ◌+◌, ◌-◌, ◌*◌, ◌/◌, ◌^◌, ◌≤◌, ◌<◌}
use native.Mathlib.Nat.{pow-le-pow_right, pow-suc}
use native.Mathlib.Omega.{arith}
use native.Mathlib.Decide.{dec_lt}
use lib.Dec.{ltb, lit<}
use lib.ListN.{length, get_or, set}
use lib.Seq.{set-get_or}
use borrow.Author.Tests.{ltb-true, ltb-false, le-ltb}
use Rattle.output.specs.Logic.{if}
use Rattle.field_index.specs.declared.Entry.{Entry}
use Rattle.field_index.specs.declared.heapsort.Heap.{Heap}
use Rattle.field_index.specs.declared.heapsort.Turn.{Turn}
use Rattle.field_index.specs.Names.{no_entry}
use Rattle.field_index.specs.Sorted.{Order, many, Same, Sorted, sorted}
use Rattle.field_index.specs.HeapSteps.{node_of, out_of, settled_of, sift_of, step_of, turn_at, after, turns, start_of, heapsorted}
use Rattle.field_index.proofs.SortedLaws.{itself, is_sorted, same_length, sorted-sorted, sorted-same}
use Rattle.field_index.proofs.HeapLaws.{up, Whole, Fine, swapped, swapped-length, swapped_same, opened, closed, down, taken, in_order, no_parent}

-- an entry goes down
pub record Sifting (b : Entry → Entry → Bool) (v : List Entry) (h : Heap) (deep : ℕ) : Type 0 where
  pub parent : h.at < h.hi / 2
  pub from : h.lo ≤ h.at
  pub left_is : h.left ≡ 2 * h.at + 1
  pub right_is : h.right ≡ if (ltb (2 * h.at + 2) h.hi) (2 * h.at + 2) (2 * h.at + 1)
  pub depth : 2 ^ deep ≤ h.at + 1
  pub fine : Fine b no_entry v h.lo h.hi h.at

-- the first entry is to be put last
pub record Taking (b : Entry → Entry → Bool) (v : List Entry) (h : Heap) : Type 0 where
  pub lo_is : h.lo ≡ 0
  pub at-is : h.at ≡ 0
  pub left_is : h.left ≡ h.hi - 1
  pub right_is : h.right ≡ h.hi - 1
  pub whole : Whole b no_entry v 0 h.hi

pub record Good (b : Entry → Entry → Bool) (v : List Entry) (h : Heap) (deep : ℕ) : Type 0 where
  pub inside : h.hi ≤ length v
  pub half : h.lo ≤ h.hi / 2
  pub sifting : h.out ≡ false → Sifting b v h deep
  pub taking : h.out ≡ true → Taking b v h

-- at most so many turns are left, where there are fewer than 2 ^ D entries
abbrev pub weight : ℕ → Heap → ℕ → ℕ
weight D h deep = (h.lo + h.hi) * (D + 2) + if h.out 0 (D + 1 - deep)

-- what a turn gives: t says what is stored
pub record Next (b : Entry → Entry → Bool) (D : ℕ) (v : List Entry) (h : Heap) (deep : ℕ) (w : List Entry) (next : Heap) : Type 0 where
  pub deep' : ℕ
  pub good : Good b w next deep'
  pub less : weight D next deep' < weight D h deep

pub record Turned (b : Entry → Entry → Bool) (D : ℕ) (v : List Entry) (h : Heap) (deep : ℕ) (t : Turn) : Type 0 where
  pub to_in : t.to < length v
  pub same : Same (set (set v h.at t.first) t.to t.second) v
  pub next : Next b D v h deep (set (set v h.at t.first) t.to t.second) t.next

absurd_tests : {X : Type 0} {t : Bool} → t ≡ true → t ≡ false → X
absurd_tests p q = let z : ◌≡◌ {A = ℕ} 0 1 = ap (λ (t : Bool). if t 0 1) (sym p ∙ q) in absurd (omega arith)

fewer : (hi D : ℕ) → 1 < hi → (0 + (hi - 1)) * (D + 2) + (D + 1 - 0) < (0 + hi) * (D + 2) + 0
fewer hi D h = let q : hi ≡ suc (hi - 1) = omega arith in rw (ap (λ (m : ℕ). (0 + m) * (D + 2)) q) (omega arith)

-- where no turn is left, at most one entry is left to sort
light : (D : ℕ) (h : Heap) (deep : ℕ) → weight D h deep ≤ 0 → h.hi ≤ 1
light D h deep l = omega arith

-- the same, by the place in question in place of its depth: of N entries at most
abbrev pub height : ℕ → Heap → ℕ
height N h = (h.lo + h.hi) * (N + 2) + if h.out 0 (N + 1 - h.at)

settled-height : (N lo hi : ℕ) → height N (settled_of lo hi) ≤ (lo + hi) * (N + 2)
settled-height N lo hi = go (ltb 0 lo) refl
  where
    go : (t : Bool) → ltb 0 lo ≡ t → height N (if t (node_of (lo - 1) hi (lo - 1)) (out_of hi)) ≤ (lo + hi) * (N + 2)
    go true e =
        let l : 0 < lo = ltb-true 0 lo e in
        let q : suc (lo - 1) ≡ lo = omega arith in
        omega (arith, ap (λ (m : ℕ). (m + hi) * (N + 2)) q)
    go false e =
        let q : lo ≡ 0 = omega (arith, ltb-false 0 lo e) in
        omega (arith, ap (λ (m : ℕ). (m + hi) * (N + 2)) q)

sift-height : (N lo hi i : ℕ) → height N (sift_of lo hi i) ≤ (lo + hi) * (N + 2) + (N + 1 - i)
sift-height N lo hi i = go (ltb i (hi / 2))
  where
    go : (t : Bool) → height N (if t (node_of lo hi i) (settled_of lo hi)) ≤ (lo + hi) * (N + 2) + (N + 1 - i)
    go true = omega arith
    go false = omega (arith, settled-height N lo hi)

module _ (b : Entry → Entry → Bool) (o : Order b) (D : ℕ) where
  -- ---- the states that a turn leads to
  module _ (v : List Entry) where
    node_good : (lo hi i deep : ℕ) → i < hi / 2 → lo ≤ i → hi ≤ length v → 2 ^ deep ≤ i + 1 → Fine b no_entry v lo hi i → Good b v (node_of lo hi i) deep
    node_good lo hi i deep p f s h g = record {
      inside = s;
      half = omega arith;
      sifting = λ _. record { parent = p; from = f; left_is = refl; right_is = refl; depth = h; fine = g };
      taking = λ e. absurd_tests e refl;
    }

    -- the state, with a bound of its weight
    abbrev Comes : Heap → ℕ → Type 0
    Comes h bound = (deep : ℕ) × Good b v h deep × (weight D h deep ≤ bound)

    opened_good : (lo hi : ℕ) → suc lo ≤ hi / 2 → hi ≤ length v → Whole b no_entry v (suc lo) hi → Comes (node_of lo hi lo) ((suc lo + hi) * (D + 2))
    opened_good lo hi p s w = (0, node_good lo hi lo 0 (omega arith) (omega arith) s (omega arith) (opened b o no_entry v lo hi w), omega arith)

    settled_good : (lo hi : ℕ) → lo ≤ hi / 2 → hi ≤ length v → Whole b no_entry v lo hi → Comes (settled_of lo hi) ((lo + hi) * (D + 2))
    settled_good lo hi p s w = go (ltb 0 lo) refl
      where
        go : (t : Bool) → ltb 0 lo ≡ t → Comes (if t (node_of (lo - 1) hi (lo - 1)) (out_of hi)) ((lo + hi) * (D + 2))
        go true e =
            let l : 0 < lo = ltb-true 0 lo e in
            let q : suc (lo - 1) ≡ lo = omega arith in
            let r = opened_good (lo - 1) hi (omega arith) s (rw q w) in
            (r.0, r.1, omega (arith, r.2, ap (λ (m : ℕ). (m + hi) * (D + 2)) q))
        go false e =
            let q : lo ≡ 0 = omega (arith, ltb-false 0 lo e) in
            (0, record { inside = s; half = omega arith; sifting = λ e. absurd_tests refl e; taking = λ _. record { lo_is = refl; at-is = refl; left_is = refl; right_is = refl; whole = rw q at w } }, omega arith)

    sift_good : (lo hi i deep : ℕ) → lo ≤ hi / 2 → hi ≤ length v → lo ≤ i → i < hi → 2 ^ deep ≤ i + 1 → Fine b no_entry v lo hi i → Comes (sift_of lo hi i) ((lo + hi) * (D + 2) + (D + 1 - deep))
    sift_good lo hi i deep p s f l h g = go (ltb i (hi / 2)) refl
      where
        go : (t : Bool) → ltb i (hi / 2) ≡ t → Comes (if t (node_of lo hi i) (settled_of lo hi)) ((lo + hi) * (D + 2) + (D + 1 - deep))
        go true e = (deep, node_good lo hi i deep (ltb-true i (hi / 2) e) f s h g, omega arith)
        go false e =
            let r = settled_good lo hi p s (closed b o no_entry v lo hi i g (λ c h₁ h₂ u. absurd (omega (arith, ltb-false i (hi / 2) e)))) in
            (r.0, r.1, omega (arith, r.2))

  module _ (v : List Entry) (few : length v < 2 ^ D) (h : Heap) (deep : ℕ) (g : Good b v h deep) (some : 1 < h.hi) where
    abbrev el : ℕ → Entry
    el k = get_or v k no_entry

    -- ---- an entry goes down
    module _ (down-now : h.out ≡ false) where
      S : Sifting b v h deep
      S = g.sifting down-now

      -- the depth is within the list's
      bounded : deep < D
      bounded = go (dec_lt deep D)
        where
          go : Dec (deep < D) → deep < D
          go (yes l) = l
          go (no n) = absurd (omega (arith, S.depth, S.parent, g.inside, pow-le-pow_right {n = 2} (lit< tt) {i = D} {j = deep} (omega arith)))

      heavy : weight D h deep ≡ (h.lo + h.hi) * (D + 2) + (D + 1 - deep)
      heavy = ap (λ (t : Bool). (h.lo + h.hi) * (D + 2) + if t 0 (D + 1 - deep)) down-now

      module _ (c : ℕ) (pos : 0 < c) (inside : c < h.hi) (child : up c ≡ h.at) (top : (k : ℕ) → 0 < k → k < h.hi → up k ≡ h.at → b (el c) (el k) ≡ false) where
        step_good : Turned b D v h deep (step_of b h c (el h.at) (el c))
        step_good = go (b (el h.at) (el c)) refl
          where
            kept : set (set v h.at (el h.at)) c (el c) ≡ v
            kept = ap (λ (w : List Entry). set w c (el c)) (set-get_or v h.at no_entry) ∙ set-get_or v c no_entry

            deeper : 2 ^ suc deep ≤ c + 1
            deeper = omega (arith, S.depth, pow-suc 2 deep, child)

            go : (t : Bool) → b (el h.at) (el c) ≡ t → Turned b D v h deep (if t (record { next = sift_of h.lo h.hi c; to = c; first = el c; second = el h.at }) (record { next = settled_of h.lo h.hi; to = c; first = el h.at; second = el c }))
            go true e =
                let l₁ : h.at < length v = omega (arith, g.inside) in
                let l₂ : c < length v = omega (arith, g.inside) in
                let l₃ : h.at < c = omega (arith, child) in
                let size = swapped-length no_entry v h.at c l₁ l₂ l₃ in
                let r = sift_good (swapped no_entry v h.at c) h.lo h.hi c (suc deep) g.half (omega (arith, g.inside, size)) (omega (arith, S.from)) inside deeper (down b o no_entry v h.lo h.hi h.at c S.fine g.inside S.from pos inside child e top) in
                record { to_in = l₂; same = swapped_same no_entry v h.at c l₁ l₂ l₃; next = record { deep' = r.0; good = r.1; less = omega (arith, r.2, bounded, heavy) } }
            go false e =
                let r = settled_good v h.lo h.hi g.half g.inside (closed b o no_entry v h.lo h.hi h.at S.fine (λ k h₁ h₂ u. stays k h₁ h₂ u)) in
                record { to_in = omega (arith, g.inside); same = λ p. ap (λ (w : List Entry). many p w) kept; next = record { deep' = r.0; good = rw kept r.1; less = omega (arith, r.2, bounded, heavy) } }
              where
                stays : (k : ℕ) → 0 < k → k < h.hi → up k ≡ h.at → b (el h.at) (el k) ≡ false
                stays k h₁ h₂ u = o.through (el k) (el c) (el h.at) (top k h₁ h₂ u) e

      -- ---- the later child
      right_place : ((h.right ≡ 2 * h.at + 2) × (2 * h.at + 2 < h.hi)) ⊎ ((h.right ≡ 2 * h.at + 1) × (h.hi ≤ 2 * h.at + 2))
      right_place = go (ltb (2 * h.at + 2) h.hi) refl S.right_is
        where
          go : (t : Bool) → ltb (2 * h.at + 2) h.hi ≡ t → h.right ≡ if t (2 * h.at + 2) (2 * h.at + 1)
              → ((h.right ≡ 2 * h.at + 2) × (2 * h.at + 2 < h.hi)) ⊎ ((h.right ≡ 2 * h.at + 1) × (h.hi ≤ 2 * h.at + 2))
          go true e q = inl (q, ltb-true _ _ e)
          go false e q = inr (q, ltb-false _ _ e)

      a_child : (k : ℕ) → 0 < k → up k ≡ h.at → (k ≡ 2 * h.at + 1) ⊎ (k ≡ 2 * h.at + 2)
      a_child k l u = go (dec_lt (2 * h.at + 1) k)
        where
          go : Dec (2 * h.at + 1 < k) → (k ≡ 2 * h.at + 1) ⊎ (k ≡ 2 * h.at + 2)
          go (yes m) = inr (omega arith)
          go (no n) = inl (omega arith)

      -- a fact of both children is a fact of each
      module _ (P : ℕ → Type 0) (on-left : P h.left) (on-right : P h.right) where
        each : (k : ℕ) → 0 < k → k < h.hi → up k ≡ h.at → P k
        each k l m u = go (a_child k l u) right_place
          where
            go : (k ≡ 2 * h.at + 1) ⊎ (k ≡ 2 * h.at + 2) → ((h.right ≡ 2 * h.at + 2) × (2 * h.at + 2 < h.hi)) ⊎ ((h.right ≡ 2 * h.at + 1) × (h.hi ≤ 2 * h.at + 2)) → P k
            go (inl e) r = subst P (S.left_is ∙ sym e) on-left
            go (inr e) (inl r) = subst P (r.0 ∙ sym e) on-right
            go (inr e) (inr r) = absurd (omega arith)

      left_in : (0 < h.left) × (h.left < h.hi) × (up h.left ≡ h.at)
      left_in = (omega (arith, S.left_is), omega (arith, S.left_is, S.parent), omega (arith, S.left_is))

      right_in : (0 < h.right) × (h.right < h.hi) × (up h.right ≡ h.at)
      right_in = go right_place
        where
          go : ((h.right ≡ 2 * h.at + 2) × (2 * h.at + 2 < h.hi)) ⊎ ((h.right ≡ 2 * h.at + 1) × (h.hi ≤ 2 * h.at + 2)) → (0 < h.right) × (h.right < h.hi) × (up h.right ≡ h.at)
          go (inl r) = (omega arith, omega arith, omega arith)
          go (inr r) = (omega arith, omega (arith, S.parent), omega arith)

      sifted : Turned b D v h deep (if (b (el h.left) (el h.right)) (step_of b h h.right (el h.at) (el h.right)) (step_of b h h.left (el h.at) (el h.left)))
      sifted = go (b (el h.left) (el h.right)) refl
        where
          go : (t : Bool) → b (el h.left) (el h.right) ≡ t → Turned b D v h deep (if t (step_of b h h.right (el h.at) (el h.right)) (step_of b h h.left (el h.at) (el h.left)))
          go true e = step_good h.right right_in.0 right_in.1 right_in.2 (each (λ k. b (el h.right) (el k) ≡ false) (o.one_way (el h.left) (el h.right) e) (itself b o (el h.right)))
          go false e = step_good h.left left_in.0 left_in.1 left_in.2 (each (λ k. b (el h.left) (el k) ≡ false) (itself b o (el h.left)) e)

    -- ---- the first entry is put last
    module _ (take-now : h.out ≡ true) where
      K : Taking b v h
      K = g.taking take-now

      taken_good : Turned b D v h deep (record { next = sift_of 0 (h.hi - 1) 0; to = h.left; first = el h.left; second = el h.at })
      taken_good =
          let m = h.hi - 1 in
          let q : h.hi ≡ suc m = omega arith in
          let l₁ : h.at < length v = omega (arith, g.inside, K.at-is) in
          let l₂ : h.left < length v = omega (arith, g.inside, K.left_is) in
          let l₃ : h.at < h.left = omega (arith, K.at-is, K.left_is) in
          let size = swapped-length no_entry v h.at h.left l₁ l₂ l₃ in
          let f : Fine b no_entry (swapped no_entry v h.at h.left) 0 m 0 = rw (K.at-is, K.left_is) (taken b o no_entry v m (rw q at K.whole) (omega (arith, g.inside)) (omega arith)) in
          let r = sift_good (swapped no_entry v h.at h.left) 0 m 0 0 (omega arith) (omega (arith, g.inside, size)) (omega arith) (omega arith) (omega arith) f in
          record { to_in = l₂; same = swapped_same no_entry v h.at h.left l₁ l₂ l₃; next = record { deep' = r.0; good = r.1; less = omega (arith, r.2, lighter) } }
        where
          lighter : (0 + (h.hi - 1)) * (D + 2) + (D + 1 - 0) < weight D h deep
          lighter = rw (take-now, K.lo_is) (fewer h.hi D some)

    pub turned_good : Turned b D v h deep (turn_at b v h)
    turned_good = go h.out refl
      where
        go : (t : Bool) → h.out ≡ t → Turned b D v h deep (if t (record { next = sift_of 0 (h.hi - 1) 0; to = h.left; first = el h.left; second = el h.at })
            (if (b (el h.left) (el h.right)) (step_of b h h.right (el h.at) (el h.right)) (step_of b h h.left (el h.at) (el h.left))))
        go true e = taken_good e
        go false e = sifted e

    -- the places that a turn looks at
    pub places : (h.at < length v) × (h.left < length v) × (h.right < length v)
    places = go h.out refl
      where
        go : (t : Bool) → h.out ≡ t → (h.at < length v) × (h.left < length v) × (h.right < length v)
        go true e = (omega (arith, g.inside, (g.taking e).at-is), omega (arith, g.inside, (g.taking e).left_is), omega (arith, g.inside, (g.taking e).right_is))
        go false e = (omega (arith, g.inside, (g.sifting e).parent), omega (arith, g.inside, (left_in e).1), omega (arith, g.inside, (right_in e).1))

    -- ---- the height
    module _ (N : ℕ) (most : h.hi ≤ N) where
      step-falls : h.out ≡ false → (c : ℕ) → h.at < c → c < h.hi → (x y : Entry) → height N (step_of b h c x y).next < height N h
      step-falls e c l m x y = rw e (go (b x y))
        where
          go : (t : Bool) → height N (if {A = Turn} t (record { next = sift_of h.lo h.hi c; to = c; first = y; second = x }) (record { next = settled_of h.lo h.hi; to = c; first = x; second = y })).next < (h.lo + h.hi) * (N + 2) + (N + 1 - h.at)
          go true = omega (arith, sift-height N h.lo h.hi c)
          go false = omega (arith, settled-height N h.lo h.hi)

      pub falls : height N (turn_at b v h).next < height N h
      falls = go h.out refl
        where
          by : h.out ≡ false → (t : Bool) → height N (if {A = Turn} t (step_of b h h.right (el h.at) (el h.right)) (step_of b h h.left (el h.at) (el h.left))).next < height N h
          by e true = step-falls e h.right (omega (arith, right_in e)) (right_in e).1 (el h.at) (el h.right)
          by e false = step-falls e h.left (omega (arith, left_in e)) (left_in e).1 (el h.at) (el h.left)

          go : (t : Bool) → h.out ≡ t → height N (if {A = Turn} t (record { next = sift_of 0 (h.hi - 1) 0; to = h.left; first = el h.left; second = el h.at })
              (if (b (el h.left) (el h.right)) (step_of b h h.right (el h.at) (el h.right)) (step_of b h h.left (el h.at) (el h.left)))).next < height N h
          go true e = rw (e, (g.taking e).lo_is) (omega (arith, fewer h.hi N some, sift-height N 0 (h.hi - 1) 0))
          go false e = by e (b (el h.left) (el h.right))

  -- ---- the start, the end, and the whole
  pub started : (v : List Entry) → (deep : ℕ) × Good b v (start_of (length v)) deep × (weight D (start_of (length v)) deep ≤ (length v / 2 + length v) * (D + 2))
  started v = settled_good v (length v / 2) (length v) (omega arith) (omega arith) (no_parent b o no_entry v)

  pub ended : (v : List Entry) (h : Heap) (deep : ℕ) → Good b v h deep → h.hi ≤ 1 → Sorted b v
  ended v h deep g l = go h.out refl
    where
      go : (t : Bool) → h.out ≡ t → Sorted b v
      go true e = in_order b o no_entry v 0 h.hi (g.taking e).whole l
      go false e = absurd (omega (arith, (g.sifting e).parent))

  turns-is : (k : ℕ) (v : List Entry) (h : Heap) (deep : ℕ) → length v < 2 ^ D → Good b v h deep → weight D h deep ≤ k → turns k b v h ≡ some (sorted b v)
  unfolding turns
  turns-is zero v h deep few g l = rw (le-ltb 1 h.hi (light D h deep l)) (ap some (is_sorted b o v v (ended v h deep g (light D h deep l)) (λ p. refl)))
  turns-is (suc k) v h deep few g l = go (ltb 1 h.hi) refl (λ m. turns-is k (after b v h) (turn_at b v h).next (turned_good v few h deep g m).next.deep' (omega (arith, same_length (after b v h) v (turned_good v few h deep g m).same))
      (turned_good v few h deep g m).next.good (omega (arith, (turned_good v few h deep g m).next.less)))
    where
      go : (t : Bool) → ltb 1 h.hi ≡ t → (1 < h.hi → turns k b (after b v h) (turn_at b v h).next ≡ some (sorted b (after b v h))) → if t (turns k b (after b v h) (turn_at b v h).next) (some v) ≡ some (sorted b v)
      go true e ih =
          let m = ltb-true 1 h.hi e in
          ih m ∙ ap some (is_sorted b o v (sorted b (after b v h)) (sorted-sorted b o (after b v h)) (λ p. sorted-same b (after b v h) p ∙ (turned_good v few h deep g m).same p))
      go false e ih = ap some (is_sorted b o v v (ended v h deep g (ltb-false 1 h.hi e)) (λ p. refl))

-- A heapsort of any list of n entries, fewer than 2 ^ D, over any order, is over after at most (n / 2 + n) * (D + 2) turns, each of at most two comparisons, and leaves the sorted list.
pub heapsorted-is : (b : Entry → Entry → Bool) → Order b → (D : ℕ) (v : List Entry) → length v < 2 ^ D → heapsorted ((length v / 2 + length v) * (D + 2)) b v ≡ some (sorted b v)
unfolding heapsorted
heapsorted-is b o D v few = turns-is b o D ((length v / 2 + length v) * (D + 2)) v (start_of (length v)) (started b o D v).0 few (started b o D v).1 (started b o D v).2
