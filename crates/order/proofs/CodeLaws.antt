-- What the code of the comparison needs. Assumes nothing.
use Rattle.std.specs.Ordering.{nat_cmp, ordering_reverse, ordering_then, is_ne, bool_cmp}
use mathlib.Core.Path.{◌≡◌, refl, sym, ap, ◌∙◌}
use mathlib.Core.Bool.{Bool, true, false, not}
use Prim.Native.Nat.{ℕ, suc, ◌+◌, ◌-◌, ◌*◌, ◌^◌, ◌/◌, ◌%◌, ◌≤◌, ◌<◌}
use lib.IntN.{ℤ, pos, negsuc}
use lib.Signed.{lt_z}
use mir.Syntax.{Width}
use mir.Val.{SFits, hbits, to_z, of_z}
use mir.ValLaws.{to_z_pos}
use native.Mathlib.Nat.{mul-le-mul_right, suc-mul, zero-mul, mul-pos, mul-one, pow-zero, pow-le-pow_right, div-add-mod', mod-lt, one-mul}
use native.Mathlib.Omega.{arith}
use Rattle.numbers.proofs.Signed.{below-zero}
use Rattle.tape.specs.Tree.{bit}
use Rattle.std.specs.declared.cmp.Ordering.{Ordering}
use Rattle.std.specs.declared.cmp.Ordering.TheVariants.{Less, Equal, Greater}
use Rattle.order.specs.Order.{integers, values}
use Rattle.order.specs.Steps.{over_by, Low, Biased, by_sign}
use Rattle.order.proofs.Combine.{less_is, greater_is, equal_is, Told, below, equal, over, tell, numbers-total}
use Rattle.order.proofs.Decimals.{values_near}

pub turned-numbers : (m n : ℕ) → ordering_reverse (nat_cmp m n) ≡ nat_cmp n m
turned-numbers m n = sym (numbers-total.swap m n)

-- ---- decimals

pub scaled_far : (m k n : ℕ) → (m ≡ 0 → ⊥) → 20 ≤ k → n < 2 ^ 64 → nat_cmp (m * 10 ^ k) n ≡ Greater
scaled_far m k n z h f =
    let p : 10 ^ 20 ≤ 10 ^ k = pow-le-pow_right (omega arith) h in
    let q : 1 * 10 ^ k ≤ m * 10 ^ k = mul-le-mul_right (10 ^ k) (omega arith) in
    let r : 1 * 10 ^ k ≡ 10 ^ k = one-mul (10 ^ k) in
    greater_is (m * 10 ^ k) n (omega arith)

pub scaled_near : (m n p : ℕ) → 0 < p → ordering_then (nat_cmp m (n / p)) (nat_cmp 0 (n % p)) ≡ nat_cmp (m * p) n
scaled_near m n p h = go (tell m (n / p)) (tell 0 (n % p))
  where
    whole : n / p * p + n % p ≡ n
    whole = div-add-mod' n p

    small : n % p < p
    small = mod-lt n h

    go : Told m (n / p) → Told 0 (n % p) → ordering_then (nat_cmp m (n / p)) (nat_cmp 0 (n % p)) ≡ nat_cmp (m * p) n
    go (below i) t =
        let a : suc m * p ≤ n / p * p = mul-le-mul_right p i in
        let b : suc m * p ≡ m * p + p = suc-mul m p in
        let w = whole in
        ap (λ (x : Ordering). ordering_then x (nat_cmp 0 (n % p))) (less_is m (n / p) i) ∙ sym (less_is (m * p) n (omega arith))
    go (over i) t =
        let a : suc (n / p) * p ≤ m * p = mul-le-mul_right p i in
        let b : suc (n / p) * p ≡ n / p * p + p = suc-mul (n / p) p in
        let w = whole in
        let s = small in
        ap (λ (x : Ordering). ordering_then x (nat_cmp 0 (n % p))) (greater_is m (n / p) i) ∙ sym (greater_is (m * p) n (omega arith))
    go (equal i) (below j) =
        let a : m * p ≡ n / p * p = ap (λ (x : ℕ). x * p) i in
        let w = whole in
        ap (λ (x : Ordering). ordering_then x (nat_cmp 0 (n % p))) (equal_is m (n / p) i) ∙ less_is 0 (n % p) j ∙ sym (less_is (m * p) n (omega arith))
    go (equal i) (equal j) =
        let a : m * p ≡ n / p * p = ap (λ (x : ℕ). x * p) i in
        let w = whole in
        ap (λ (x : Ordering). ordering_then x (nat_cmp 0 (n % p))) (equal_is m (n / p) i) ∙ equal_is 0 (n % p) j ∙ sym (equal_is (m * p) n (omega arith))
    go (equal i) (over j) = absurd (omega arith)

-- no power where the exponent does not lie above
pub unscaled : (n x y : ℕ) → y ≤ x → n * 10 ^ (y - x) ≡ n
unscaled n x y h = let e : y - x ≡ 0 = omega arith in ap (λ (i : ℕ). n * 10 ^ i) e ∙ ap (λ (i : ℕ). n * i) (pow-zero 10) ∙ mul-one n

module _ (m n P Q : ℕ) (p : 0 < P) (q : 0 < Q) where
  sum_least : (m ≡ 0 → ⊥) → 0 < m * P + n * Q
  sum_least z = let a : 0 < m * P = mul-pos (omega arith) p in omega arith

  pub mixed_less : (m ≡ 0 → ⊥) → nat_cmp 0 (m * P + n * Q) ≡ Less
  mixed_less z = less_is 0 (m * P + n * Q) (sum_least z)

  pub mixed_greater : (m ≡ 0 → ⊥) → nat_cmp (m * P + n * Q) 0 ≡ Greater
  mixed_greater z = greater_is (m * P + n * Q) 0 (sum_least z)

  sum_zero : m ≡ 0 → n ≡ 0 → m * P + n * Q ≡ 0
  sum_zero z y = ap (λ (i : ℕ). i * P + n * Q) z ∙ ap (λ (i : ℕ). 0 * P + i * Q) y ∙ ap (λ (i : ℕ). i + 0 * Q) (zero-mul P) ∙ ap (λ (i : ℕ). 0 + i) (zero-mul Q)

  sum_some : 0 < n → 0 < m * P + n * Q
  sum_some h = let a : 0 < n * Q = mul-pos h q in omega arith

  pub mixed_left : m ≡ 0 → nat_cmp 0 (m * P + n * Q) ≡ nat_cmp 0 n
  mixed_left z = go (tell 0 n)
    where
      go : Told 0 n → nat_cmp 0 (m * P + n * Q) ≡ nat_cmp 0 n
      go (below h) = less_is 0 (m * P + n * Q) (sum_some h) ∙ sym (less_is 0 n h)
      go (equal h) = equal_is 0 (m * P + n * Q) (sym (sum_zero z (sym h))) ∙ sym (equal_is 0 n h)
      go (over h) = absurd (omega arith)

  pub mixed_right : m ≡ 0 → nat_cmp (m * P + n * Q) 0 ≡ nat_cmp n 0
  mixed_right z = sym (turned-numbers 0 (m * P + n * Q)) ∙ ap ordering_reverse (mixed_left z) ∙ turned-numbers 0 n

-- ---- signed numbers

pub neg_biased : (N : ℕ) (z : ℤ) (k : ℕ) → z ≡ negsuc k → k < N → (r : ℕ) → r ≡ N - suc k → Biased N z r
neg_biased N z k e h r i = rw e (record { low = h; is = i })

pub pos_biased : (N : ℕ) (z : ℤ) (k : ℕ) → z ≡ pos k → (r : ℕ) → r ≡ N + k → Biased N z r
pos_biased N z k e r i = rw e (record { low = tt; is = i })

-- the inverted bits of a negative number, M being all bits
pub record Inverted (w : Width) (M : ℕ) (z : ℤ) : Type 0 where
  pub k : ℕ
  pub is : z ≡ negsuc k
  pub fits : k < 2 ^ hbits w
  pub bits : to_z w (M - of_z w z) ≡ pos k

pub invert : (w : Width) (M : ℕ) → ((k : ℕ) → k < 2 ^ hbits w → M - of_z w (negsuc k) ≡ k) → (z : ℤ) → SFits w z → lt_z (to_z w (of_z w z)) (pos 0) ≡ true → Inverted w M z
invert w M f z s h =
    let b = below-zero w z s h in
    record { k = b.0; is = b.1; fits = b.2; bits = ap (λ (x : ℤ). to_z w (M - of_z w x)) b.1 ∙ ap (to_z w) (f b.0 b.2) ∙ to_z_pos w b.0 b.2 }

pub integers-by : (N : ℕ) (e f : ℤ) → Low N e → Low N f → integers e f ≡ nat_cmp (over_by N e) (over_by N f)
integers-by N (pos m) (pos n) p q = go (tell m n)
  where
    go : Told m n → nat_cmp m n ≡ nat_cmp (N + m) (N + n)
    go (below h) = less_is m n h ∙ sym (less_is (N + m) (N + n) (omega arith))
    go (equal h) = equal_is m n h ∙ sym (equal_is (N + m) (N + n) (omega arith))
    go (over h) = greater_is m n h ∙ sym (greater_is (N + m) (N + n) (omega arith))
integers-by N (pos m) (negsuc n) p q = sym (greater_is (N + m) (N - suc n) (omega arith))
integers-by N (negsuc m) (pos n) p q = sym (less_is (N - suc m) (N + n) (omega arith))
integers-by N (negsuc m) (negsuc n) p q = go (tell n m)
  where
    go : Told n m → nat_cmp n m ≡ nat_cmp (N - suc m) (N - suc n)
    go (below h) = less_is n m h ∙ sym (less_is (N - suc m) (N - suc n) (omega arith))
    go (equal h) = equal_is n m h ∙ sym (equal_is (N - suc m) (N - suc n) (omega arith))
    go (over h) = greater_is n m h ∙ sym (greater_is (N - suc m) (N - suc n) (omega arith))

pub biased_order : (N : ℕ) (e f : ℤ) (x y : ℕ) → Biased N e x → Biased N f y → nat_cmp x y ≡ integers e f
biased_order N e f x y p q = ap (λ (i : ℕ). nat_cmp i y) p.is ∙ ap (nat_cmp (over_by N e)) q.is ∙ sym (integers-by N e f p.low q.low)

-- ---- signs

-- negative before positive
pub signs_is : (s t : Bool) → bool_cmp t s ≡ nat_cmp (bit (not s)) (bit (not t))
signs_is false false = refl
signs_is false true = refl
signs_is true false = refl
signs_is true true = refl

pub by_value : (N : ℕ) (s t : Bool) (m n : ℕ) (e f : ℤ) (x y : ℕ) → Biased N e x → Biased N f y → by_sign s t (m * 10 ^ (x - y)) (n * 10 ^ (y - x)) ≡ values (s, m, e) (t, n, f)
by_value N s t m n e f x y p q =
    ap (λ (i : ℕ). by_sign s t (m * 10 ^ (i - y)) (n * 10 ^ (y - i))) p.is
    ∙ ap (λ (i : ℕ). by_sign s t (m * 10 ^ (over_by N e - i)) (n * 10 ^ (i - over_by N e))) q.is
    ∙ sym (values_near N (s, m, e) (t, n, f) p.low q.low)

-- ---- one comparison behind another
pub then_equal : (w : Ordering) → w ≡ ordering_then w Equal
then_equal Less = refl
then_equal Equal = refl
then_equal Greater = refl

-- what is not equal decides
pub decided : (s r w : Ordering) → w ≡ s → is_ne w ≡ true → w ≡ ordering_then s r
decided Less r w e n = e
decided Equal r w e n = (let h = rw e at n in cc)
decided Greater r w e n = e

pub equal_of : (w : Ordering) → is_ne w ≡ false → w ≡ Equal
equal_of Less e = cc
equal_of Equal e = refl
equal_of Greater e = cc

pub passed : (s r w : Ordering) → w ≡ s → is_ne w ≡ false → ordering_then s r ≡ r
passed s r w e n = rw (sym e ∙ equal_of w n)
