-- What is read was written so: each whole number has one spelling, and is not over the most. Assumes nothing.
use mathlib.Core.Path.{◌≡◌, refl, sym, ap, ◌∙◌}
use mathlib.Core.Bool.{Bool, true, false, ◌&&◌}
use mathlib.Core.List.{List, [], ◌∷◌, ◌++◌, append_assoc}
use mathlib.Core.Option.{Option, none, some}
use Prim.Native.Nat.{ℕ, suc, ◌+◌, ◌-◌, ◌*◌, ◌%◌, ◌^◌, ◌≤◌, ◌<◌}
use native.Mathlib.Omega.{arith}
use lib.Dec.{eqb, leb}
use lib.ListN.{length, drop}
use borrow.Author.Tests.{leb-true, eqb-true, eqb-false, ne_eqb}
use Rattle.output.specs.Logic.{if, on, byte}
use Rattle.text_rules.specs.Digits.{digits, pad, count, is_digit, run, behind_digits, number, whole as unpadded}
use Rattle.text_rules.specs.Texts.{starts}
use Rattle.text_rules.proofs.DigitLaws.{Digits, never, both, digit_range, digits-run, pow_pos10}
use Rattle.floats.specs.Whole.{most_whole, point, whole_text, ReadWhole, ranged, scaled, behind_e, behind_all, behind_first, whole_number}
use Rattle.floats.proofs.WholeDigits.{Leads, lead_least, first-joined, digits_number, digits-plain, factor_below}
use Rattle.floats.proofs.WholeBack.{text_of}

-- ---- answers

abbrev Some : ReadWhole → ℕ → List ℕ → Type 0
Some o n r = ◌≡◌ {A = ReadWhole} o (some (n, r))

pub none-some : {A P : Type 0} {v : A} → ◌≡◌ {A = Option A} none (some v) → P
none-some {A} h = never (sym (ap (λ (o : Option A). on o (λ w. true) false) h))

number_of : {n n' : ℕ} {r r' : List ℕ} → Some (some (n, r)) n' r' → n ≡ n'
number_of h = ap (λ (o : ReadWhole). on o (λ v. v.0) 0) h

rest_of : {n n' : ℕ} {r r' : List ℕ} → Some (some (n, r)) n' r' → r ≡ r'
rest_of h = ap (λ (o : ReadWhole). on o (λ v. v.1) []) h

pub if_some : {A : Type 0} (b : Bool) (o : Option A) (v : A) → if b o none ≡ some v → (b ≡ true) × (o ≡ some v)
if_some true o v h = (refl, h)
if_some false o v h = none-some h

-- ---- the number

-- what was read is `0e0`, or a number over 0
module _ {P : Type 0} (m f e n : ℕ) (r r' : List ℕ) (zero-told : m ≡ 0 → e ≡ 0 → n ≡ 0 → r ≡ r' → P) (over_told : 0 < m % 10 → f ≤ e → e ≤ 15 → m * 10 ^ (e - f) ≡ n → n ≤ most_whole → r ≡ r' → P) where
  ranged-told : 0 < m % 10 → Some (ranged m f e r) n r' → P
  unfolding ranged
  ranged-told p h =
      let g = if_some (leb f e && leb e 15 && leb (m * 10 ^ (e - f)) most_whole) _ _ h in
      let a = both (leb f e && leb e 15) (leb (m * 10 ^ (e - f)) most_whole) g.0 in
      let b = both (leb f e) (leb e 15) a.0 in
      let i : m * 10 ^ (e - f) ≡ n = number_of g.1 in
      over_told p (leb-true f e b.0) (leb-true e 15 b.1) i (omega (arith, leb-true (m * 10 ^ (e - f)) most_whole a.1)) (rest_of g.1)

  scaled-told : Some (scaled m f e r) n r' → P
  unfolding scaled
  scaled-told h = go (eqb m 0) refl (eqb e 0) refl (eqb (m % 10) 0) refl h
    where
      go : (b : Bool) → eqb m 0 ≡ b → (d : Bool) → eqb e 0 ≡ d → (t : Bool) → eqb (m % 10) 0 ≡ t → Some (if b (if d (some (0, r)) none) (if t none (ranged m f e r))) n r' → P
      go true p true q t g h = zero-told (eqb-true m 0 p) (eqb-true e 0 q) (sym (number_of h)) (rest_of h)
      go true p false q t g h = none-some h
      go false p d q true g h = none-some h
      go false p d q false g h = ranged-told (omega (arith, eqb-false (m % 10) 0 g)) h

-- ---- the digits s, of which more than one start with no 0

abbrev Starts : ℕ → List ℕ → Type 0
Starts c s = 1 ≤ length s → 1 ≤ c - 48

zero_text : (c : ℕ) (s : List ℕ) → is_digit c ≡ true → Starts c s → number 0 (c ∷ s) ≡ 0 → point (c ∷ s) ++ (byte "e" ∷ digits 0) ≡ whole_text 0
unfolding number point whole_text digits count pad
zero_text c [] d l h = let e : c ≡ 48 = omega (arith, digit_range c d) in ap (λ (x : ℕ). x ∷ byte "e" ∷ digits 0) e
zero_text c (x ∷ s) d l h =
    let k = l (omega arith) in
    let b = lead_least c (x ∷ s) d (ne_eqb c 48 (λ (e : c ≡ 48). omega arith)) in
    let bad : ⊥ = omega (arith, pow_pos10 (length (x ∷ s))) in absurd bad

leads : (c : ℕ) (s : List ℕ) → Starts c s → 0 < number 0 (c ∷ s) → Leads (c ∷ s)
unfolding number
leads c [] l h = ne_eqb c 48 (λ (e : c ≡ 48). omega arith)
leads c (x ∷ s) l h = let k = l (omega arith) in ne_eqb c 48 (λ (e : c ≡ 48). omega arith)

-- a point in them, `e` and the exponent are the text of the number that was read
record Spelled (s : List ℕ) (e n : ℕ) (r r' : List ℕ) : Type 0 where
  small : e < 2 ^ 64
  most : n ≤ most_whole
  rest : r ≡ r'
  is : point s ++ (byte "e" ∷ digits e) ≡ whole_text n

module _ (c : ℕ) (s : List ℕ) (e n : ℕ) (r r' : List ℕ) (d : Digits (c ∷ s)) (l : Starts c s) where
  abbrev m : ℕ
  m = number 0 (c ∷ s)

  zero_so : m ≡ 0 → e ≡ 0 → n ≡ 0 → r ≡ r' → Spelled (c ∷ s) e n r r'
  zero_so m0 e0 n0 q = record { small = omega arith; most = omega arith; rest = q; is = rw (e0, n0) (zero_text c s d.0 l m0) }

  over_so : 0 < m % 10 → length s ≤ e → e ≤ 15 → m * 10 ^ (e - length s) ≡ n → n ≤ most_whole → r ≡ r' → Spelled (c ∷ s) e n r r'
  over_so p k j i b q =
      let z = e - length s in
      let h64 : m < 2 ^ 64 = omega (arith, factor_below m z) in
      let own : digits m ≡ c ∷ s = digits_number (c ∷ s) d (leads c s l (omega arith)) h64 in
      let x : suc (length s) + z - 1 ≡ e = omega arith in
      record { small = omega arith; most = b; rest = q; is = sym (ap whole_text (sym i) ∙ text_of m z p (omega arith) ∙ rw (own, x)) }

  spelled : Some (scaled m (length s) e r) n r' → Spelled (c ∷ s) e n r r'
  spelled h = scaled-told m (length s) e n r r' zero_so over_so h

-- ---- the token

run-split : (t : List ℕ) → t ≡ run t ++ behind_digits t
unfolding run behind_digits
run-split [] = refl
run-split (c ∷ t) = go (is_digit c) (run-split t)
  where
    go : (b : Bool) → t ≡ run t ++ behind_digits t → c ∷ t ≡ if b (c ∷ run t) [] ++ if b (behind_digits t) (c ∷ t)
    go true h = ap (λ (l : List ℕ). c ∷ l) h
    go false h = refl

starts-split : (b : ℕ) (t : List ℕ) → starts b t ≡ true → t ≡ b ∷ drop 1 t
unfolding starts
starts-split b [] h = never (sym h)
starts-split b (c ∷ t) h = ap (λ (x : ℕ). x ∷ t) (eqb-true c b h)

-- what `whole_once` says of a text
abbrev Once : List ℕ → ℕ → List ℕ → Type 0
Once t n r = (t ≡ whole_text n ++ r) × (n ≤ most_whole)

all_once : (c : ℕ) (s t : List ℕ) (n : ℕ) (r : List ℕ) → Digits (c ∷ s) → Starts c s → Some (behind_all (number 0 (c ∷ s)) (length s) t) n r → Once (point (c ∷ s) ++ t) n r
unfolding behind_all behind_e
all_once c s t n r d l h =
    let g = if_some (starts (byte "e") t) _ _ h in
    let u = drop 1 t in
    let k = if_some (unpadded (run u)) _ _ g.1 in
    let q = spelled c s (number 0 (run u)) n (behind_digits u) r d l k.1 in
    let e : digits (number 0 (run u)) ≡ run u = digits-plain (run u) (digits-run u) k.0 q.small in
    let i : t ≡ (byte "e" ∷ digits (number 0 (run u))) ++ r = starts-split (byte "e") t g.0 ∙ ap (λ (v : List ℕ). byte "e" ∷ v) (run-split u) ∙ rw (e, q.rest) in
    (ap (λ (v : List ℕ). point (c ∷ s) ++ v) i ∙ sym (append_assoc (point (c ∷ s)) (byte "e" ∷ digits (number 0 (run u))) r) ∙ ap (λ (v : List ℕ). v ++ r) q.is, q.most)

point-split : (c : ℕ) (s t : List ℕ) → 1 ≤ length s → c ∷ byte "." ∷ (s ++ t) ≡ point (c ∷ s) ++ t
unfolding point
point-split c [] t h = let bad : ⊥ = omega arith in absurd bad
point-split c (x ∷ s) t h = refl

-- the first digit is c
first_once : (c : ℕ) (t : List ℕ) (n : ℕ) (r : List ℕ) → is_digit c ≡ true → Some (behind_first (c - 48) t) n r → Once (c ∷ t) n r
unfolding behind_first number point
first_once c t n r d h = go (starts (byte ".") t) refl h
  where
    go : (b : Bool) → starts (byte ".") t ≡ b
        → Some (if b (if (leb 1 (c - 48) && leb 1 (length (run (drop 1 t)))) (behind_all (number (c - 48) (run (drop 1 t))) (length (run (drop 1 t))) (behind_digits (drop 1 t))) none) (behind_all (c - 48) 0 t)) n r → Once (c ∷ t) n r
    go false e h = all_once c [] t n r (d, tt) (λ l. omega arith) (ap (λ (k : ℕ). behind_all k 0 t) (sym (first-joined c)) ∙ h)
    go true e h =
        let g = if_some (leb 1 (c - 48) && leb 1 (length (run (drop 1 t)))) _ _ h in
        let a = both (leb 1 (c - 48)) (leb 1 (length (run (drop 1 t)))) g.0 in
        let o = all_once c (run (drop 1 t)) (behind_digits (drop 1 t)) n r (d, digits-run (drop 1 t)) (λ l. leb-true 1 (c - 48) a.0) (ap (λ (k : ℕ). behind_all (number k (run (drop 1 t))) (length (run (drop 1 t))) (behind_digits (drop 1 t))) (sym (first-joined c)) ∙ g.1) in
        let i : t ≡ byte "." ∷ (run (drop 1 t) ++ behind_digits (drop 1 t)) = starts-split (byte ".") t e ∙ ap (λ (v : List ℕ). byte "." ∷ v) (run-split (drop 1 t)) in
        (ap (λ (v : List ℕ). c ∷ v) i ∙ point-split c (run (drop 1 t)) (behind_digits (drop 1 t)) (leb-true 1 (length (run (drop 1 t))) a.1) ∙ o.0, o.1)

-- a text that a whole number was read from is that number's text, and the rest
pub whole_once : (t : List ℕ) (n : ℕ) (r : List ℕ) → whole_number t ≡ some (n, r) → (t ≡ whole_text n ++ r) × (n ≤ most_whole)
unfolding whole_number
whole_once [] n r h = none-some h
whole_once (c ∷ t) n r h = let g = if_some (is_digit c) _ _ h in first_once c t n r g.0 g.1
