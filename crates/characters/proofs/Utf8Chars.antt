-- Laws of UTF-8's definitions: a character lies within its list, and a list is checked one character after the other.
-- Assumes nothing.
use mathlib.Core.Path.{◌≡◌, refl, sym, ap, ◌∙◌}
use mathlib.Core.Bool.{Bool, true, false, ◌&&◌}
use mathlib.Core.List.{List, [], ◌∷◌}
use Prim.Native.Nat.{ℕ, zero, suc, ◌+◌, ◌-◌, ◌≤◌, ◌<◌, zero-le, suc-le-suc}
use native.Mathlib.Nat.{add-zero}
use native.Mathlib.Omega.{arith}
use lib.Dec.{ltb, eqb}
use lib.ListN.{length, get_or, drop}
use lib.Seq.{drop-cons, drop-drop, get_or-drop}
use borrow.Author.Tests.{lt-ltb}
use Rattle.output.specs.Logic.{if}
use Rattle.characters.specs.Utf8.{lead_of, is_cont, ok2, ok3, ok4, char_of, char_at, after}

pub ascii : (a b c d : ℕ) → a < 128 → char_of a b c d ≡ 1
unfolding char_of lead_of
ascii a b c d h = simp (lt-ltb a 128 h)

pub and_left : (x y : Bool) → (x && y) ≡ true → x ≡ true
and_left true y e = refl
and_left false y e = e

pub and_second : (x y z : Bool) → (x && (y && z)) ≡ true → y ≡ true
and_second true y z e = and_left y z e
and_second false y z e = cc

pub and-third : (w x y z : Bool) → (w && (x && (y && z))) ≡ true → y ≡ true
and-third true x y z e = and_second x y z e
and-third false x y z e = cc

within : (p1 p2 o2 p3 o3 p4 o4 : Bool) (n : ℕ) → 1 ≤ n → (o2 ≡ true → 2 ≤ n) → (o3 ≡ true → 3 ≤ n) → (o4 ≡ true → 4 ≤ n)
    → if p1 1 (if p2 (if o2 2 0) (if p3 (if o3 3 0) (if p4 (if o4 4 0) 0))) ≤ n
within true p2 o2 p3 o3 p4 o4 n h h2 h3 h4 = h
within false true true p3 o3 p4 o4 n h h2 h3 h4 = h2 refl
within false true false p3 o3 p4 o4 n h h2 h3 h4 = zero-le
within false false o2 true true p4 o4 n h h2 h3 h4 = h3 refl
within false false o2 true false p4 o4 n h h2 h3 h4 = zero-le
within false false o2 false o3 true true n h h2 h3 h4 = h4 refl
within false false o2 false o3 true false n h h2 h3 h4 = zero-le
within false false o2 false o3 false o4 n h h2 h3 h4 = zero-le

-- a continuation byte is not past the end
cont_in : (s : List ℕ) (j : ℕ) → is_cont (get_or s j 0) ≡ true → j < length s
unfolding is_cont
cont_in [] j e = let z : ◌≡◌ {A = ℕ} 0 1 = cc in omega arith
cont_in (x ∷ s) zero e = suc-le-suc zero-le
cont_in (x ∷ s) (suc j) e = suc-le-suc (cont_in s j e)

pub char_in : (s : List ℕ) (i : ℕ) → i < length s → i + char_at s i ≤ length s
unfolding char_of ok2 ok3 ok4
char_in s i h =
    let a = get_or s i 0 in
    let b = get_or s (i + 1) 0 in
    let c = get_or s (i + 2) 0 in
    let d = get_or s (i + 3) 0 in
    let in2 : ok2 a b ≡ true → 2 ≤ length s - i = λ e. omega (arith, cont_in s (i + 1) (and_left (is_cont b) _ e)) in
    let in3 : ok3 a b c ≡ true → 3 ≤ length s - i = λ e. omega (arith, cont_in s (i + 2) (and_second (is_cont b) (is_cont c) _ e)) in
    let in4 : ok4 a b c d ≡ true → 4 ≤ length s - i = λ e. omega (arith, cont_in s (i + 3) (and-third (is_cont b) (is_cont c) (is_cont d) _ e)) in
    omega (arith, within (eqb (lead_of a) 1) (eqb (lead_of a) 2) (ok2 a b) (eqb (lead_of a) 3) (ok3 a b c) (eqb (lead_of a) 4) (ok4 a b c d) (length s - i) (omega arith) in2 in3 in4)

pub char_drop : (s : List ℕ) (i : ℕ) → char_at (drop i s) 0 ≡ char_at s i
char_drop s i = simp (get_or-drop, add-zero)

pub skip : (n : ℕ) (s : List ℕ) → after n s ≡ after 0 (drop n s)
unfolding after
skip zero s = refl
skip (suc n) [] = refl
skip (suc n) (b ∷ s) = skip n s

-- a character of n bytes at i: what is left to check starts n bytes on
pub step : (s : List ℕ) (i : ℕ) → i < length s → 0 < char_at s i → after 0 (drop i s) ≡ after 0 (drop (i + char_at s i) s)
unfolding after
step s i h p =
    let n = char_at s i in
    let l = get_or s i 0 ∷ drop (suc i) s in
    let e : drop i s ≡ l = drop-cons s i 0 h in
    let k : char_at l 0 ≡ n = ap (λ (x : List ℕ). char_at x 0) (sym e) ∙ char_drop s i in
    let j : suc i + (n - 1) ≡ i + n = omega arith in
    ap (λ (x : List ℕ). after 0 x) e
    ∙ ap (λ (m : ℕ). ltb 0 m && after (m - 1) (drop (suc i) s)) k
    ∙ ap (λ (t : Bool). t && after (n - 1) (drop (suc i) s)) (lt-ltb 0 n p)
    ∙ skip (n - 1) (drop (suc i) s)
    ∙ ap (λ (x : List ℕ). after 0 x) (drop-drop (n - 1) (suc i) s ∙ ap (λ (m : ℕ). drop m s) j)

-- no character at i
pub stop : (s : List ℕ) (i : ℕ) → i < length s → char_at s i ≡ 0 → after 0 (drop i s) ≡ false
unfolding after
stop s i h z =
    let l = get_or s i 0 ∷ drop (suc i) s in
    let e : drop i s ≡ l = drop-cons s i 0 h in
    let k : char_at l 0 ≡ 0 = ap (λ (x : List ℕ). char_at x 0) (sym e) ∙ char_drop s i ∙ z in
    ap (λ (x : List ℕ). after 0 x) e ∙ ap (λ (m : ℕ). ltb 0 m && after (m - 1) (drop (suc i) s)) k

-- a byte below hex 80 is a character
pub ascii_step : (s : List ℕ) (i : ℕ) → i < length s → get_or s i 0 < 128 → after 0 (drop i s) ≡ after 0 (drop (i + 1) s)
ascii_step s i h l =
    let one : char_at s i ≡ 1 = ascii _ _ _ _ l in
    step s i h (omega arith) ∙ ap (λ (n : ℕ). after 0 (drop (i + n) s)) one
