-- The characters of UTF-8 as lists of bytes: what `char_at` finds at the start of a text is one, and only the character's own bytes decide it.
-- Assumes nothing.
use mathlib.Core.Path.{◌≡◌, refl, ap, ◌∙◌}
use mathlib.Core.Bool.{Bool, true, false}
use mathlib.Core.List.{List, [], ◌∷◌, ◌++◌}
use Prim.Native.Nat.{ℕ, ◌+◌, ◌*◌, ◌/◌, ◌%◌, ◌≤◌, ◌<◌}
use native.Mathlib.Nat.{zero-add}
use native.Mathlib.Omega.{arith}
use lib.Dec.{ltb, eqb}
use lib.ListN.{length, get_or, drop, length-append}
use lib.Seq.{drop-append_seam}
use borrow.Author.Tests.{lt-ltb, le-ltb, le-leb, ltb-true, ltb-false, eqb-true}
use Rattle.output.specs.Logic.{if}
use Rattle.characters.specs.Utf8.{lead_of, is_cont, value2, value3, value4, is_scalar, ok2, ok3, ok4, char_of, char_at, after, valid, utf8}
use Rattle.characters.proofs.Utf8Chars.{and_left, and_second, and-third, step}
use Rattle.characters.proofs.Utf8Scalar.{scalar-small}

-- the bytes of one character
pub data Char : List ℕ → Type 0 where
  one : (a : ℕ) → lead_of a ≡ 1 → Char (a ∷ [])
  two : (a b : ℕ) → lead_of a ≡ 2 → ok2 a b ≡ true → Char (a ∷ b ∷ [])
  three : (a b c : ℕ) → lead_of a ≡ 3 → ok3 a b c ≡ true → Char (a ∷ b ∷ c ∷ [])
  four : (a b c d : ℕ) → lead_of a ≡ 4 → ok4 a b c d ≡ true → Char (a ∷ b ∷ c ∷ d ∷ [])

-- whatever follows it
pub char-at : {x : List ℕ} → Char x → (t : List ℕ) → char_at (x ++ t) 0 ≡ length x
unfolding char_of
char-at (one a e) t = rw e
char-at (two a b e o) t = rw (e, o)
char-at (three a b c e o) t = rw (e, o)
char-at (four a b c d e o) t = rw (e, o)

pub char_some : {x : List ℕ} → Char x → 1 ≤ length x
char_some (one a e) = omega arith
char_some (two a b e o) = omega arith
char_some (three a b c e o) = omega arith
char_some (four a b c d e o) = omega arith

-- a character, and then a text
pub valid_char : {x : List ℕ} → Char x → (s : List ℕ) → valid (x ++ s) ≡ valid s
unfolding valid
valid_char {x} c s =
    let n = char-at c s in
    let m = char_some c in
    let l = length-append x s in
    let j : 0 + char_at (x ++ s) 0 ≡ length x = zero-add _ ∙ n in
    step (x ++ s) 0 (omega arith) (omega arith) ∙ ap (λ (k : ℕ). after 0 (drop k (x ++ s))) j ∙ ap (λ (u : List ℕ). after 0 u) (drop-append_seam x s)

-- the character that a text starts with
pub record View (s : List ℕ) : Type 0 where
  pub char : List ℕ
  pub rest : List ℕ
  pub is : s ≡ char ++ rest
  pub good : Char char

-- a missing byte is 0, which is no continuation
no_cont : is_cont 0 ≡ true → ⊥
unfolding is_cont
no_cont e = let z : ◌≡◌ {A = ℕ} 0 1 = cc in omega arith

short2 : (a : ℕ) → ok2 a 0 ≡ true → ⊥
unfolding ok2
short2 a e = no_cont (and_left (is_cont 0) _ e)

short3 : (a b : ℕ) → ok3 a b 0 ≡ true → ⊥
unfolding ok3
short3 a b e = no_cont (and_second (is_cont b) (is_cont 0) _ e)

short4 : (a b c : ℕ) → ok4 a b c 0 ≡ true → ⊥
unfolding ok4
short4 a b c e = no_cont (and-third (is_cont b) (is_cont c) (is_cont 0) _ e)

pub view : (a : ℕ) (t : List ℕ) → 1 ≤ char_at (a ∷ t) 0 → View (a ∷ t)
unfolding char_of
view a t h = go t h (eqb (lead_of a) 1) refl (eqb (lead_of a) 2) refl (eqb (lead_of a) 3) refl (eqb (lead_of a) 4) refl
  where
    none : {A : Type 0} → 1 ≤ 0 → A
    none h = absurd (omega arith)

    go2 : (t : List ℕ) (o : Bool) → ok2 a (get_or t 0 0) ≡ o → lead_of a ≡ 2 → 1 ≤ if o 2 0 → View (a ∷ t)
    go2 (b ∷ t) true e l h = record { char = a ∷ b ∷ []; rest = t; is = refl; good = two a b l e }
    go2 [] true e l h = absurd (short2 a e)
    go2 t false e l h = none h

    go3 : (t : List ℕ) (o : Bool) → ok3 a (get_or t 0 0) (get_or t 1 0) ≡ o → lead_of a ≡ 3 → 1 ≤ if o 3 0 → View (a ∷ t)
    go3 (b ∷ c ∷ t) true e l h = record { char = a ∷ b ∷ c ∷ []; rest = t; is = refl; good = three a b c l e }
    go3 (b ∷ []) true e l h = absurd (short3 a b e)
    go3 [] true e l h = absurd (short3 a 0 e)
    go3 t false e l h = none h

    go4 : (t : List ℕ) (o : Bool) → ok4 a (get_or t 0 0) (get_or t 1 0) (get_or t 2 0) ≡ o → lead_of a ≡ 4 → 1 ≤ if o 4 0 → View (a ∷ t)
    go4 (b ∷ c ∷ d ∷ t) true e l h = record { char = a ∷ b ∷ c ∷ d ∷ []; rest = t; is = refl; good = four a b c d l e }
    go4 (b ∷ c ∷ []) true e l h = absurd (short4 a b c e)
    go4 (b ∷ []) true e l h = absurd (short4 a b 0 e)
    go4 [] true e l h = absurd (short4 a 0 0 e)
    go4 t false e l h = none h

    go : (t : List ℕ) → 1 ≤ char_at (a ∷ t) 0 → (p1 : Bool) → eqb (lead_of a) 1 ≡ p1 → (p2 : Bool) → eqb (lead_of a) 2 ≡ p2 → (p3 : Bool) → eqb (lead_of a) 3 ≡ p3 → (p4 : Bool) → eqb (lead_of a) 4 ≡ p4 → View (a ∷ t)
    go t h true e1 p2 e2 p3 e3 p4 e4 = record { char = a ∷ []; rest = t; is = refl; good = one a (eqb-true _ _ e1) }
    go t h false e1 true e2 p3 e3 p4 e4 = go2 t (ok2 a (get_or t 0 0)) refl (eqb-true _ _ e2) (rw (e1, e2) at h)
    go t h false e1 false e2 true e3 p4 e4 = go3 t (ok3 a (get_or t 0 0) (get_or t 1 0)) refl (eqb-true _ _ e3) (rw (e1, e2, e3) at h)
    go t h false e1 false e2 false e3 true e4 = go4 t (ok4 a (get_or t 0 0) (get_or t 1 0) (get_or t 2 0)) refl (eqb-true _ _ e4) (rw (e1, e2, e3, e4) at h)
    go t h false e1 false e2 false e3 false e4 = none (rw (e1, e2, e3, e4) at h)

-- ---- the UTF-8 of a scalar value

lead1 : (a : ℕ) → a < 0x80 → lead_of a ≡ 1
unfolding lead_of
lead1 a h = rw (lt-ltb a 0x80 h)

lead2 : (a : ℕ) → 0xC0 ≤ a → a < 0xE0 → lead_of a ≡ 2
unfolding lead_of
lead2 a l h = rw (le-ltb a 0x80 (omega arith), le-ltb a 0xC0 l, lt-ltb a 0xE0 h)

lead3 : (a : ℕ) → 0xE0 ≤ a → a < 0xF0 → lead_of a ≡ 3
unfolding lead_of
lead3 a l h = rw (le-ltb a 0x80 (omega arith), le-ltb a 0xC0 (omega arith), le-ltb a 0xE0 l, lt-ltb a 0xF0 h)

lead4 : (a : ℕ) → 0xF0 ≤ a → a < 0xF8 → lead_of a ≡ 4
unfolding lead_of
lead4 a l h = rw (le-ltb a 0x80 (omega arith), le-ltb a 0xC0 (omega arith), le-ltb a 0xE0 (omega arith), le-ltb a 0xF0 l, lt-ltb a 0xF8 h)

cont : (x : ℕ) → x < 64 → is_cont (0x80 + x) ≡ true
unfolding is_cont
cont x h = rw (le-leb 0x80 (0x80 + x) (omega arith), lt-ltb (0x80 + x) 0xC0 (omega arith))

yes2 : (a b v : ℕ) → is_cont b ≡ true → value2 a b ≡ v → 0x80 ≤ v → ok2 a b ≡ true
unfolding ok2
yes2 a b v p e l = rw (p, e, le-leb 0x80 v l)

yes3 : (a b c v : ℕ) → is_cont b ≡ true → is_cont c ≡ true → value3 a b c ≡ v → 0x800 ≤ v → is_scalar v ≡ true → ok3 a b c ≡ true
unfolding ok3
yes3 a b c v p q e l s = rw (p, q, e, le-leb 0x800 v l, s)

yes4 : (a b c d v : ℕ) → is_cont b ≡ true → is_cont c ≡ true → is_cont d ≡ true → value4 a b c d ≡ v → 0x1_0000 ≤ v → is_scalar v ≡ true → ok4 a b c d ≡ true
unfolding ok4
yes4 a b c d v p q r e l s = rw (p, q, r, e, le-leb 0x1_0000 v l, s)

low6 : (x : ℕ) → x < 64 → (0x80 + x) % 64 ≡ x
low6 x h = omega arith

low3 : (x : ℕ) → x < 8 → (0xF0 + x) % 8 ≡ x
low3 x h = omega arith

-- the parts of a number in base 64
parts4 : (v : ℕ) → v / 262144 * 262144 + v / 4096 % 64 * 4096 + v / 64 % 64 * 64 + v % 64 ≡ v
parts4 v =
    let e1 : v / 262144 * 64 + v / 4096 % 64 ≡ v / 4096 = omega arith in
    let e2 : v / 4096 * 64 + v / 64 % 64 ≡ v / 64 = omega arith in
    let e3 : v / 64 * 64 + v % 64 ≡ v = omega arith in
    join (v / 262144) (v / 4096 % 64) (v / 64 % 64) (v % 64) (v / 4096) (v / 64) v e1 e2 e3
  where
    join : (p q r s a b v : ℕ) → p * 64 + q ≡ a → a * 64 + r ≡ b → b * 64 + s ≡ v → p * 262144 + q * 4096 + r * 64 + s ≡ v
    join p q r s a b v e1 e2 e3 = omega arith

value_four : (v : ℕ) → v < 0x11_0000 → value4 (0xF0 + v / 262144) (0x80 + v / 4096 % 64) (0x80 + v / 64 % 64) (0x80 + v % 64) ≡ v
value_four v h =
    let p : v / 262144 < 8 = omega arith in
    let q : v / 4096 % 64 < 64 = omega arith in
    let r : v / 64 % 64 < 64 = omega arith in
    let s : v % 64 < 64 = omega arith in
    rw (low3 (v / 262144) p, low6 (v / 4096 % 64) q, low6 (v / 64 % 64) r, low6 (v % 64) s) (parts4 v)

pub utf8_char : (v : ℕ) → is_scalar v ≡ true → Char (utf8 v)
unfolding utf8
utf8_char v s = go (ltb v 0x80) refl (ltb v 0x800) refl (ltb v 0x1_0000) refl
  where
    go : (p : Bool) → ltb v 0x80 ≡ p → (q : Bool) → ltb v 0x800 ≡ q → (r : Bool) → ltb v 0x1_0000 ≡ r
        → Char (if p (v ∷ []) (if q ((0xC0 + v / 64) ∷ (0x80 + v % 64) ∷ []) (if r ((0xE0 + v / 4096) ∷ (0x80 + v / 64 % 64) ∷ (0x80 + v % 64) ∷ []) ((0xF0 + v / 262144) ∷ (0x80 + v / 4096 % 64) ∷ (0x80 + v / 64 % 64) ∷ (0x80 + v % 64) ∷ []))))
    go true e q f r g = one v (lead1 v (ltb-true _ _ e))
    go false e true f r g =
        let lo : 0x80 ≤ v = ltb-false _ _ e in
        let hi : v < 0x800 = ltb-true _ _ f in
        two (0xC0 + v / 64) (0x80 + v % 64) (lead2 (0xC0 + v / 64) (omega arith) (omega arith)) (yes2 (0xC0 + v / 64) (0x80 + v % 64) v (cont (v % 64) (omega arith)) (omega arith) lo)
    go false e false f true g =
        let lo : 0x800 ≤ v = ltb-false _ _ f in
        let hi : v < 0x1_0000 = ltb-true _ _ g in
        three (0xE0 + v / 4096) (0x80 + v / 64 % 64) (0x80 + v % 64) (lead3 (0xE0 + v / 4096) (omega arith) (omega arith)) (yes3 (0xE0 + v / 4096) (0x80 + v / 64 % 64) (0x80 + v % 64) v (cont (v / 64 % 64) (omega arith)) (cont (v % 64) (omega arith)) (omega arith) lo s)
    go false e false f false g =
        let lo : 0x1_0000 ≤ v = ltb-false _ _ g in
        let hi : v < 0x11_0000 = scalar-small v s in
        four (0xF0 + v / 262144) (0x80 + v / 4096 % 64) (0x80 + v / 64 % 64) (0x80 + v % 64) (lead4 (0xF0 + v / 262144) (omega arith) (omega arith)) (yes4 (0xF0 + v / 262144) (0x80 + v / 4096 % 64) (0x80 + v / 64 % 64) (0x80 + v % 64) v (cont (v / 4096 % 64) (omega arith)) (cont (v / 64 % 64) (omega arith)) (cont (v % 64) (omega arith)) (value_four v hi) lo s)

pub ascii_char : (a : ℕ) → a < 0x80 → Char (a ∷ [])
ascii_char a h = one a (lead1 a h)
