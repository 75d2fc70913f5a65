-- The order of decimals by exact value is one; it may be read over any exponent that lies below all. Assumes nothing.
use Rattle.std.specs.Ordering.{nat_cmp, ordering_reverse, ordering_then}
use mathlib.Core.Path.{◌≡◌, refl, sym, ap, ◌∙◌}
use mathlib.Core.Bool.{Bool, true, false, not}
use Prim.Native.Nat.{ℕ, zero, suc, ◌+◌, ◌-◌, ◌*◌, ◌^◌, ◌≤◌, ◌<◌}
use lib.IntN.{ℤ, pos, negsuc, nat_abs}
use lib.Pow.{pow-add}
use native.Mathlib.Nat.{mul_assoc, mul-one, pow-zero, mul-lt-mul_of_pos_right, add-mul, zero-mul}
use native.Mathlib.Omega.{arith}
use Rattle.text_rules.proofs.DigitLaws.{pow_pos10}
use Rattle.tape.specs.Tree.{bit}
use Rattle.std.specs.declared.cmp.Ordering.TheVariants.{Equal}
use Rattle.order.specs.Order.{integers, Decimal, above, signed_by, value_over, values, decimals}
use Rattle.order.specs.Steps.{by_sign, over_by, Low}
use Rattle.order.specs.Total.{Through, Total}
use Rattle.std.proofs.lemmas.Map.Lookups.{exact_unsigned}
use Rattle.order.proofs.Combine.{Any, then, of, less_is, greater_is, equal_is, Told, below, equal, over, tell, numbers-total, integers-total, both_equal}

-- ---- integers by sign and magnitude

numbers-suc : (m n : ℕ) → nat_cmp m n ≡ nat_cmp (suc m) (suc n)
numbers-suc m n = go (tell m n)
  where
    go : Told m n → nat_cmp m n ≡ nat_cmp (suc m) (suc n)
    go (below h) = less_is m n h ∙ sym (less_is (suc m) (suc n) (omega arith))
    go (equal h) = equal_is m n h ∙ sym (equal_is (suc m) (suc n) (omega arith))
    go (over h) = greater_is m n h ∙ sym (greater_is (suc m) (suc n) (omega arith))

pub by-sign : (s t : Bool) (a b : ℕ) → integers (signed_by s a) (signed_by t b) ≡ by_sign s t a b
by-sign false false a b = refl
by-sign false true a zero = go (tell a 0)
  where
    go : Told a 0 → nat_cmp a 0 ≡ nat_cmp (a + 0) 0
    go (below h) = absurd (omega arith)
    go (equal h) = equal_is a 0 h ∙ sym (equal_is (a + 0) 0 (omega arith))
    go (over h) = greater_is a 0 h ∙ sym (greater_is (a + 0) 0 (omega arith))
by-sign false true a (suc b) = sym (greater_is (a + suc b) 0 (omega arith))
by-sign true false zero b = go (tell 0 b)
  where
    go : Told 0 b → nat_cmp 0 b ≡ nat_cmp 0 (0 + b)
    go (below h) = less_is 0 b h ∙ sym (less_is 0 (0 + b) (omega arith))
    go (equal h) = equal_is 0 b h ∙ sym (equal_is 0 (0 + b) (omega arith))
    go (over h) = absurd (omega arith)
by-sign true false (suc a) b = sym (less_is 0 (suc a + b) (omega arith))
by-sign true true zero zero = refl
by-sign true true zero (suc b) = sym (greater_is (suc b) 0 (omega arith))
by-sign true true (suc a) zero = sym (less_is 0 (suc a) (omega arith))
by-sign true true (suc a) (suc b) = numbers-suc b a

numbers_scale : (a b c : ℕ) → 0 < c → nat_cmp (a * c) (b * c) ≡ nat_cmp a b
numbers_scale a b c p = go (tell a b)
  where
    go : Told a b → nat_cmp (a * c) (b * c) ≡ nat_cmp a b
    go (below h) = less_is (a * c) (b * c) (mul-lt-mul_of_pos_right h p) ∙ sym (less_is a b h)
    go (equal h) = equal_is (a * c) (b * c) (ap (λ (x : ℕ). x * c) h) ∙ sym (equal_is a b h)
    go (over h) = greater_is (a * c) (b * c) (mul-lt-mul_of_pos_right h p) ∙ sym (greater_is a b h)

scaled : (s t : Bool) (a b c : ℕ) → 0 < c → by_sign s t (a * c) (b * c) ≡ by_sign s t a b
scaled false false a b c p = numbers_scale a b c p
scaled false true a b c p = ap (λ (x : ℕ). nat_cmp x 0) (sym (add-mul a b c)) ∙ ap (nat_cmp ((a + b) * c)) (sym (zero-mul c)) ∙ numbers_scale (a + b) 0 c p
scaled true false a b c p = ap (nat_cmp 0) (sym (add-mul a b c)) ∙ ap (λ (x : ℕ). nat_cmp x ((a + b) * c)) (sym (zero-mul c)) ∙ numbers_scale 0 (a + b) c p
scaled true true a b c p = numbers_scale b a c p

-- ---- over an exponent below all

pub above-by : (N : ℕ) (e f : ℤ) → Low N e → Low N f → above e f ≡ over_by N e - over_by N f
above-by N (pos m) (pos n) p q = omega arith
above-by N (pos m) (negsuc n) p q = omega arith
above-by N (negsuc m) (pos n) p q = omega arith
above-by N (negsuc m) (negsuc n) p q = omega arith

-- by the powers of naturals, x and y being exponents
pub shifted : (s t : Bool) (m n x y : ℕ) → by_sign s t (m * 10 ^ (x - y)) (n * 10 ^ (y - x)) ≡ by_sign s t (m * 10 ^ x) (n * 10 ^ y)
shifted s t m n x y =
    let k : ℕ = x - (x - y) in
    let a : (x - y) + k ≡ x = omega arith in
    let b : (y - x) + k ≡ y = omega arith in
    sym (scaled s t (m * 10 ^ (x - y)) (n * 10 ^ (y - x)) (10 ^ k) (pow_pos10 k))
    ∙ ap (λ (u : ℕ). by_sign s t u (n * 10 ^ (y - x) * 10 ^ k)) (mul_assoc m (10 ^ (x - y)) (10 ^ k) ∙ ap (λ (u : ℕ). m * u) (sym (pow-add 10 (x - y) k) ∙ ap (λ (u : ℕ). 10 ^ u) a))
    ∙ ap (λ (u : ℕ). by_sign s t (m * 10 ^ x) u) (mul_assoc n (10 ^ (y - x)) (10 ^ k) ∙ ap (λ (u : ℕ). n * u) (sym (pow-add 10 (y - x) k) ∙ ap (λ (u : ℕ). 10 ^ u) b))

pub values_near : (N : ℕ) (d f : Decimal) → Low N d.2 → Low N f.2
    → values d f ≡ by_sign d.0 f.0 (d.1 * 10 ^ (over_by N d.2 - over_by N f.2)) (f.1 * 10 ^ (over_by N f.2 - over_by N d.2))
unfolding values
values_near N d f p q =
    by-sign d.0 f.0 (d.1 * 10 ^ above d.2 f.2) (f.1 * 10 ^ above f.2 d.2)
    ∙ ap (λ (u : ℕ). by_sign d.0 f.0 (d.1 * 10 ^ u) (f.1 * 10 ^ above f.2 d.2)) (above-by N d.2 f.2 p q)
    ∙ ap (λ (u : ℕ). by_sign d.0 f.0 (d.1 * 10 ^ (over_by N d.2 - over_by N f.2)) (f.1 * 10 ^ u)) (above-by N f.2 d.2 q p)

pub values-by : (N : ℕ) (d f : Decimal) → Low N d.2 → Low N f.2
    → values d f ≡ by_sign d.0 f.0 (d.1 * 10 ^ over_by N d.2) (f.1 * 10 ^ over_by N f.2)
values-by N d f p q = values_near N d f p q ∙ shifted d.0 f.0 d.1 f.1 (over_by N d.2) (over_by N f.2)

pub low_enough : (N : ℕ) (e : ℤ) → nat_abs e ≤ N → Low N e
low_enough N (pos m) h = tt
low_enough N (negsuc m) h = h

-- ---- total

abbrev Never : {A : Type 0} → A → Type 0
Never x = ⊥

values_through : (d f g : Decimal) → Through (values d f) (values f g) (values d g)
values_through d f g =
    let N : ℕ = nat_abs d.2 + nat_abs f.2 + nat_abs g.2 in
    let p = low_enough N d.2 (omega arith) in
    let q = low_enough N f.2 (omega arith) in
    let r = low_enough N g.2 (omega arith) in
    let at : Decimal → ℤ = λ x. signed_by x.0 (x.1 * 10 ^ over_by N x.2) in
    rw (is N d f p q, is N f g q r, is N d g p r) (integers-total.through (at d) (at f) (at g))
  where
    is : (N : ℕ) (d f : Decimal) → Low N d.2 → Low N f.2
        → values d f ≡ integers (signed_by d.0 (d.1 * 10 ^ over_by N d.2)) (signed_by f.0 (f.1 * 10 ^ over_by N f.2))
    is N d f p q = values-by N d f p q ∙ sym (by-sign d.0 f.0 (d.1 * 10 ^ over_by N d.2) (f.1 * 10 ^ over_by N f.2))

values_swap : (d f : Decimal) → values f d ≡ ordering_reverse (values d f)
unfolding values
values_swap d f = integers-total.swap (value_over f.2 d) (value_over d.2 f)

values-total : Total Never values
values-total = record { swap = values_swap; through = values_through; same = λ x y p. absurd p }

abbrev exponent : Decimal → ℤ
exponent d = d.2

abbrev sign : Decimal → ℕ
sign d = bit (not d.0)

signs_same : (s t : Bool) → bit (not s) ≡ bit (not t) → s ≡ t
signs_same true true e = refl
signs_same true false e = absurd (omega arith)
signs_same false true e = absurd (omega arith)
signs_same false false e = refl

above_self : (e : ℤ) → above e e ≡ 0
above_self (pos m) = omega arith
above_self (negsuc m) = omega arith

abs_signed : (s : Bool) (n : ℕ) → nat_abs (signed_by s n) ≡ n
abs_signed true zero = refl
abs_signed true (suc n) = refl
abs_signed false n = refl

decimals-same : (d f : Decimal) → values d f ≡ Equal → integers d.2 f.2 ≡ Equal → nat_cmp (sign d) (sign f) ≡ Equal → d ≡ f
unfolding values
decimals-same d f u v w =
    let e : d.2 ≡ f.2 = integers-total.same d.2 f.2 tt tt v in
    let s : d.0 ≡ f.0 = signs_same d.0 f.0 (exact_unsigned (sign d) (sign f) w) in
    let z : value_over f.2 d ≡ value_over d.2 f = integers-total.same (value_over f.2 d) (value_over d.2 f) tt tt u in
    let a : d.1 * 10 ^ above d.2 f.2 ≡ f.1 * 10 ^ above f.2 d.2 = sym (abs_signed d.0 (d.1 * 10 ^ above d.2 f.2)) ∙ ap nat_abs z ∙ abs_signed f.0 (f.1 * 10 ^ above f.2 d.2) in
    let g : above d.2 f.2 ≡ 0 = ap (λ (x : ℤ). above x f.2) e ∙ above_self f.2 in
    let h : above f.2 d.2 ≡ 0 = ap (above f.2) e ∙ above_self f.2 in
    let m : d.1 ≡ f.1 = sym (plain d.1 (above d.2 f.2) g) ∙ a ∙ plain f.1 (above f.2 d.2) h in
    λ i. (s i, m i, e i)
  where
    plain : (n k : ℕ) → k ≡ 0 → n * 10 ^ k ≡ n
    plain n k z = ap (λ (x : ℕ). n * 10 ^ x) z ∙ ap (λ (x : ℕ). n * x) (pow-zero 10) ∙ mul-one n

pub decimals-total : Total Any decimals
decimals-total =
    then values (λ d f. ordering_then (integers (exponent d) (exponent f)) (nat_cmp (sign d) (sign f))) values-total rest
    (λ d f p q u v. (let b = both_equal (integers d.2 f.2) (nat_cmp (sign d) (sign f)) v in decimals-same d f u b.0 b.1))
  where
    by-exponent : Total Never (λ d f. integers (exponent d) (exponent f))
    by-exponent = of integers exponent integers-total (λ x y p. absurd p)

    by-sign' : Total Never (λ d f. nat_cmp (sign d) (sign f))
    by-sign' = of nat_cmp sign numbers-total (λ x y p. absurd p)

    rest : Total Never (λ d f. ordering_then (integers (exponent d) (exponent f)) (nat_cmp (sign d) (sign f)))
    rest = then (λ d f. integers (exponent d) (exponent f)) (λ d f. nat_cmp (sign d) (sign f)) by-exponent by-sign' (λ x y p. absurd p)
