-- Orders put together are orders. Assumes nothing.
use Rattle.std.specs.Cmp.{nat_cmp_is}
use Rattle.std.proofs.lemmas.Cmp.{nat_cmp_total}
use Rattle.std.proofs.lemmas.Map.Lookups.{exact_unsigned}
use Rattle.std.specs.Ordering.{nat_cmp, ordering_reverse, ordering_then, int_cmp}
use Rattle.std.specs.Cmp.Lexicographic.{slice_cmp}
use mathlib.Core.Path.{◌≡◌, refl, sym, ap, ◌∙◌}
use mathlib.Core.Bool.{Bool, true, false}
use Rattle.std.specs.Prelude.{cond}
use mathlib.Core.List.{List, [], ◌∷◌}
use mathlib.Core.Option.{Option, none, some}
use Prim.Native.Nat.{ℕ, ◌<◌}
use lib.IntN.{ℤ, pos, negsuc}
use native.Mathlib.Omega.{arith}
use lib.Dec.{ltb}
use borrow.Author.Tests.{ltb-true, ltb-false, lt-ltb, le-ltb, eq-eqb, ne_eqb}
use Rattle.std.specs.declared.cmp.Ordering.{Ordering}
use Rattle.std.specs.declared.cmp.Ordering.TheVariants.{Less, Equal, Greater}
use Rattle.order.specs.Order.{integers, options}
use Rattle.order.specs.Total.{Through, Total}

abbrev pub Any : {A : Type 0} → A → Type 0
Any x = Unit {0}

-- ---- what follows from the three laws
turned_self : (w : Ordering) → w ≡ ordering_reverse w → w ≡ Equal
turned_self Less e = cc
turned_self Equal e = refl
turned_self Greater e = cc

module _ {A : Type 0} {P : A → Type 0} {c : A → A → Ordering} (t : Total P c) where
  pub reflexive : (x : A) → c x x ≡ Equal
  reflexive x = turned_self (c x x) (t.swap x x)

  -- equal exactly for equal
  pub equal_exactly : (x y : A) → P x → P y → (c x y ≡ Equal → x ≡ y) × (x ≡ y → c x y ≡ Equal)
  equal_exactly x y p q = (t.same x y p q, λ e. ap (c x) (sym e) ∙ reflexive x)

  pub antisymmetric : (x y : A) → c x y ≡ Less → c y x ≡ Greater
  antisymmetric x y e = t.swap x y ∙ ap ordering_reverse e

  pub transitive : (x y z : A) → c x y ≡ Less → c y z ≡ Less → c x z ≡ Less
  transitive x y z p q = subst' (t.through x y z)
    where
      subst' : Through (c x y) (c y z) (c x z) → c x z ≡ Less
      subst' h = rw (p, q) at h

-- ---- one behind another
swap_then : (w u : Ordering) → ordering_then (ordering_reverse w) (ordering_reverse u) ≡ ordering_reverse (ordering_then w u)
swap_then Less u = refl
swap_then Equal u = refl
swap_then Greater u = refl

pub both_equal : (w u : Ordering) → ordering_then w u ≡ Equal → (w ≡ Equal) × (u ≡ Equal)
both_equal Less u e = cc
both_equal Equal u e = (refl, e)
both_equal Greater u e = cc

pub through_less : (w : Ordering) → Through w Less Less
through_less Less = refl
through_less Equal = refl
through_less Greater = tt

pub through_greater : (w : Ordering) → Through w Greater Greater
through_greater Less = tt
through_greater Equal = refl
through_greater Greater = refl

pub less_through : (w : Ordering) → Through Less w Less
less_through Less = refl
less_through Equal = refl
less_through Greater = tt

pub greater_through : (w : Ordering) → Through Greater w Greater
greater_through Less = tt
greater_through Equal = refl
greater_through Greater = refl

pub through_then : (w₁ w₂ w₃ u₁ u₂ u₃ : Ordering) → Through w₁ w₂ w₃ → Through u₁ u₂ u₃ → Through (ordering_then w₁ u₁) (ordering_then w₂ u₂) (ordering_then w₃ u₃)
through_then Less Less w₃ u₁ u₂ u₃ p q = rw p refl
through_then Less Equal w₃ u₁ u₂ u₃ p q = rw p (less_through u₂)
through_then Less Greater w₃ u₁ u₂ u₃ p q = tt
through_then Equal Less w₃ u₁ u₂ u₃ p q = rw p (through_less u₁)
through_then Equal Equal w₃ u₁ u₂ u₃ p q = rw p q
through_then Equal Greater w₃ u₁ u₂ u₃ p q = rw p (through_greater u₁)
through_then Greater Less w₃ u₁ u₂ u₃ p q = tt
through_then Greater Equal w₃ u₁ u₂ u₃ p q = rw p (greater_through u₂)
through_then Greater Greater w₃ u₁ u₂ u₃ p q = rw p refl

pub then_swap : (w w' u u' : Ordering) → w' ≡ ordering_reverse w → u' ≡ ordering_reverse u → ordering_then w' u' ≡ ordering_reverse (ordering_then w u)
then_swap w w' u u' p q = rw (p, q) (swap_then w u)

-- One comparison behind another. The two together tell apart what P holds of.
pub then : {A : Type 0} {Q R P : A → Type 0} (c d : A → A → Ordering) → Total Q c → Total R d
    → ((x y : A) → P x → P y → c x y ≡ Equal → d x y ≡ Equal → x ≡ y) → Total P (λ x y. ordering_then (c x y) (d x y))
then c d k l s = record {
  swap = λ x y. then_swap (c x y) (c y x) (d x y) (d y x) (k.swap x y) (l.swap x y);
  through = λ x y z. through_then (c x y) (c y z) (c x z) (d x y) (d y z) (d x z) (k.through x y z) (l.through x y z);
  same = λ x y p q e. (let b = both_equal (c x y) (d x y) e in s x y p q b.0 b.1);
}

-- a comparison of what a function gives, which tells apart what P holds of
pub of : {A B : Type 0} {Q : A → Type 0} {P : B → Type 0} (c : A → A → Ordering) (f : B → A) → Total Q c → ((x y : B) → P x → P y → c (f x) (f y) ≡ Equal → x ≡ y)
    → Total P (λ x y. c (f x) (f y))
of c f k s = record { swap = λ x y. k.swap (f x) (f y); through = λ x y z. k.through (f x) (f y) (f z); same = s }

-- a pair, by its first and then by its second
pub pairs : {A B : Type 0} {P : A → Type 0} {Q : B → Type 0} (c : A → A → Ordering) (d : B → B → Ordering) → Total P c → Total Q d
    → Total {A = A × B} (λ x. P x.0 × Q x.1) (λ x y. ordering_then (c x.0 y.0) (d x.1 y.1))
pairs c d k l = record {
  swap = λ x y. then_swap (c x.0 y.0) (c y.0 x.0) (d x.1 y.1) (d y.1 x.1) (k.swap x.0 y.0) (l.swap x.1 y.1);
  through = λ x y z. through_then (c x.0 y.0) (c y.0 z.0) (c x.0 z.0) (d x.1 y.1) (d y.1 z.1) (d x.1 z.1) (k.through x.0 y.0 z.0) (l.through x.1 y.1 z.1);
  same = λ x y p q e. (let b = both_equal (c x.0 y.0) (d x.1 y.1) e in let u = k.same x.0 y.0 p.0 q.0 b.0 in let v = l.same x.1 y.1 p.1 q.1 b.1 in λ i. (u i, v i));
}

-- ---- numbers
pub less_is : (m n : ℕ) → m < n → nat_cmp m n ≡ Less
less_is m n h = sym (nat_cmp_is m n Less h)

pub greater_is : (m n : ℕ) → n < m → nat_cmp m n ≡ Greater
greater_is m n h = sym (nat_cmp_is m n Greater h)

pub equal_is : (m n : ℕ) → m ≡ n → nat_cmp m n ≡ Equal
equal_is m n h = sym (nat_cmp_is m n Equal h)

pub data Told (m n : ℕ) : Type 0 where
  below : m < n → Told m n
  equal : m ≡ n → Told m n
  over : n < m → Told m n

pub tell : (m n : ℕ) → Told m n
tell m n = go (ltb m n) (ltb n m) refl refl
  where
    go : (t u : Bool) → ltb m n ≡ t → ltb n m ≡ u → Told m n
    go true u p q = below (ltb-true m n p)
    go false true p q = over (ltb-true n m q)
    go false false p q = equal (omega (arith, ltb-false m n p, ltb-false n m q))

numbers_swap : (m n : ℕ) → nat_cmp n m ≡ ordering_reverse (nat_cmp m n)
numbers_swap m n = nat_cmp_total.antisymm n m

numbers_through : (x y z : ℕ) → Through (nat_cmp x y) (nat_cmp y z) (nat_cmp x z)
numbers_through x y z = go (tell x y) (tell y z)
  where
    go : Told x y → Told y z → Through (nat_cmp x y) (nat_cmp y z) (nat_cmp x z)
    go (below h) (below i) = rw (less_is x y h, less_is y z i, less_is x z (omega arith)) refl
    go (below h) (equal i) = rw (less_is x y h, equal_is y z i, less_is x z (omega arith)) refl
    go (below h) (over i) = rw (less_is x y h, greater_is y z i) tt
    go (equal h) t = rw (equal_is x y h) (ap (λ (m : ℕ). nat_cmp m z) h)
    go (over h) (below i) = rw (greater_is x y h, less_is y z i) tt
    go (over h) (equal i) = rw (greater_is x y h, equal_is y z i, greater_is x z (omega arith)) refl
    go (over h) (over i) = rw (greater_is x y h, greater_is y z i, greater_is x z (omega arith)) refl

pub numbers-total : Total Any nat_cmp
numbers-total = record { swap = numbers_swap; through = numbers_through; same = λ m n p q. exact_unsigned m n }

-- ---- integers
integers_through : (x y z : ℤ) → Through (integers x y) (integers y z) (integers x z)
integers_through (pos x) (pos y) (pos z) = numbers_through x y z
integers_through (pos x) (pos y) (negsuc z) = through_greater (nat_cmp x y)
integers_through (pos x) (negsuc y) (pos z) = tt
integers_through (pos x) (negsuc y) (negsuc z) = greater_through (nat_cmp z y)
integers_through (negsuc x) (pos y) (pos z) = less_through (nat_cmp y z)
integers_through (negsuc x) (pos y) (negsuc z) = tt
integers_through (negsuc x) (negsuc y) (pos z) = through_less (nat_cmp y x)
integers_through (negsuc x) (negsuc y) (negsuc z) = go (tell y x) (tell z y)
  where
    go : Told y x → Told z y → Through (nat_cmp y x) (nat_cmp z y) (nat_cmp z x)
    go (below h) (below i) = rw (less_is y x h, less_is z y i, less_is z x (omega arith)) refl
    go (below h) (equal i) = rw (less_is y x h, equal_is z y i, less_is z x (omega arith)) refl
    go (below h) (over i) = rw (less_is y x h, greater_is z y i) tt
    go (equal h) t = rw (equal_is y x h) (ap (nat_cmp z) (sym h))
    go (over h) (below i) = rw (greater_is y x h, less_is z y i) tt
    go (over h) (equal i) = rw (greater_is y x h, equal_is z y i, greater_is z x (omega arith)) refl
    go (over h) (over i) = rw (greater_is y x h, greater_is z y i, greater_is z x (omega arith)) refl

integers_swap : (x y : ℤ) → integers y x ≡ ordering_reverse (integers x y)
integers_swap (pos m) (pos n) = numbers_swap m n
integers_swap (pos m) (negsuc n) = refl
integers_swap (negsuc m) (pos n) = refl
integers_swap (negsuc m) (negsuc n) = numbers_swap n m

integers-same : (x y : ℤ) → integers x y ≡ Equal → x ≡ y
integers-same (pos m) (pos n) e = ap pos (exact_unsigned m n e)
integers-same (pos m) (negsuc n) e = cc
integers-same (negsuc m) (pos n) e = cc
integers-same (negsuc m) (negsuc n) e = ap negsuc (sym (exact_unsigned n m e))

pub integers-total : Total Any integers
integers-total = record { swap = integers_swap; through = integers_through; same = λ m n p q. integers-same m n }

naturals : (m n : ℕ) → cond (ltb m n) Less (cond (ltb n m) Greater Equal) ≡ nat_cmp m n
naturals m n = go (tell m n)
  where
    go : Told m n → cond (ltb m n) Less (cond (ltb n m) Greater Equal) ≡ nat_cmp m n
    go (below h) = rw (lt-ltb m n h)
    go (equal h) = rw (le-ltb m n (omega arith), le-ltb n m (omega arith), eq-eqb m n h)
    go (over h) = rw (le-ltb m n (omega arith), lt-ltb n m h, ne_eqb m n (λ e. omega arith))

-- what `cmp` answers at signed numbers
pub int_cmp_is : (x y : ℤ) → int_cmp x y ≡ integers x y
int_cmp_is (pos m) (pos n) = naturals m n
int_cmp_is (pos m) (negsuc n) = refl
int_cmp_is (negsuc m) (pos n) = refl
int_cmp_is (negsuc m) (negsuc n) = naturals n m

-- ---- lists
abbrev pub All : {A : Type 0} → (A → Type 0) → List A → Type 0
All P [] = Unit {0}
All P (x ∷ s) = P x × All P s

module _ {A : Type 0} {P : A → Type 0} {c : A → A → Ordering} (k : Total P c) where
  lists_swap : (s t : List A) → slice_cmp c t s ≡ ordering_reverse (slice_cmp c s t)
  lists_swap [] [] = refl
  lists_swap [] (y ∷ t) = refl
  lists_swap (x ∷ s) [] = refl
  lists_swap (x ∷ s) (y ∷ t) = then_swap (c x y) (c y x) (slice_cmp c s t) (slice_cmp c t s) (k.swap x y) (lists_swap s t)

  lists_through : (s t r : List A) → Through (slice_cmp c s t) (slice_cmp c t r) (slice_cmp c s r)
  lists_through [] [] [] = refl
  lists_through [] [] (z ∷ r) = refl
  lists_through [] (y ∷ t) [] = tt
  lists_through [] (y ∷ t) (z ∷ r) = less_through (ordering_then (c y z) (slice_cmp c t r))
  lists_through (x ∷ s) [] [] = refl
  lists_through (x ∷ s) [] (z ∷ r) = tt
  lists_through (x ∷ s) (y ∷ t) [] = through_greater (ordering_then (c x y) (slice_cmp c s t))
  lists_through (x ∷ s) (y ∷ t) (z ∷ r) =
      through_then (c x y) (c y z) (c x z) (slice_cmp c s t) (slice_cmp c t r) (slice_cmp c s r) (k.through x y z) (lists_through s t r)

  lists-same : (s t : List A) → All P s → All P t → slice_cmp c s t ≡ Equal → s ≡ t
  lists-same [] [] p q e = refl
  lists-same [] (y ∷ t) p q e = cc
  lists-same (x ∷ s) [] p q e = cc
  lists-same (x ∷ s) (y ∷ t) p q e =
      let b = both_equal (c x y) (slice_cmp c s t) e in
      let u = k.same x y p.0 q.0 b.0 in
      let v = lists-same s t p.1 q.1 b.1 in
      λ i. u i ∷ v i

  pub lists_total : Total (All P) (slice_cmp c)
  lists_total = record { swap = lists_swap; through = lists_through; same = lists-same }

  -- ---- options
  abbrev pub Maybe : Option A → Type 0
  Maybe none = Unit {0}
  Maybe (some x) = P x

  options_swap : (s t : Option A) → options c t s ≡ ordering_reverse (options c s t)
  options_swap none none = refl
  options_swap none (some y) = refl
  options_swap (some x) none = refl
  options_swap (some x) (some y) = k.swap x y

  options_through : (s t r : Option A) → Through (options c s t) (options c t r) (options c s r)
  options_through none none none = refl
  options_through none none (some z) = refl
  options_through none (some y) none = tt
  options_through none (some y) (some z) = less_through (c y z)
  options_through (some x) none none = refl
  options_through (some x) none (some z) = tt
  options_through (some x) (some y) none = through_greater (c x y)
  options_through (some x) (some y) (some z) = k.through x y z

  options-same : (s t : Option A) → Maybe s → Maybe t → options c s t ≡ Equal → s ≡ t
  options-same none none p q e = refl
  options-same none (some y) p q e = cc
  options-same (some x) none p q e = cc
  options-same (some x) (some y) p q e = ap some (k.same x y p q e)

  pub options_total : Total Maybe (options c)
  options_total = record { swap = options_swap; through = options_through; same = options-same }

-- bytes: every list of numbers
pub all_any : {A : Type 0} (s : List A) → All Any s
all_any [] = tt
all_any (x ∷ s) = (tt, all_any s)
