-- Parts of a list. Assumes nothing.
use Prim.Native.Nat.{ℕ, zero, suc, ◌+◌, ◌-◌, ◌<◌, ◌≤◌}
use mathlib.Core.Path.{◌≡◌, sym, ap, ◌∙◌}
use mathlib.Core.List.{List, [], ◌∷◌}
use native.Mathlib.Omega.{arith}
use lib.ListN.{length, get_or, take, drop, length-take, length-drop}
use lib.Seq.{take-take, take-nil, drop-drop, get_or-take, get_or-drop}
use Rattle.tape.specs.Bytes.{le_number, part}
use Rattle.tape.proofs.Numbers.{le_take}

pub drop-take : (n m : ℕ) (l : List ℕ) → drop n (take m l) ≡ take (m - n) (drop n l)
drop-take zero m l = let e : m ≡ m - 0 = omega arith in ap (λ (i : ℕ). take i l) e
drop-take (suc n) zero l = let e : 0 ≡ 0 - suc n = omega arith in ap (λ (i : ℕ). take i (drop (suc n) l)) e
drop-take (suc n) (suc m) [] = sym (take-nil (suc m - suc n))
drop-take (suc n) (suc m) (x ∷ l) = let e : m - n ≡ suc m - suc n = omega arith in drop-take n m l ∙ ap (λ (i : ℕ). take i (drop n l)) e

-- what stands eight bytes before the end, as the trailer makes it, stands before it
pub trailed : {e n : ℕ} → e + 8 ≤ n → e ≤ n
trailed h = omega arith

module _ (s : List ℕ) (a e : ℕ) where
  pub part_length : e ≤ length s → length (part s a e) ≡ e - a
  part_length h = let t = length-take (e - a) (drop a s) in let d = length-drop a s in omega arith

  pub part-drop : (n : ℕ) → drop n (part s a e) ≡ part s (a + n) e
  part-drop n =
      let g : e - a - n ≡ e - (a + n) = omega arith in
      drop-take n (e - a) (drop a s) ∙ ap (λ (l : List ℕ). take (e - a - n) l) (drop-drop n a s) ∙ ap (λ (i : ℕ). take i (drop (a + n) s)) g

  pub part_byte : (i : ℕ) → a + i < e → get_or (part s a e) i 0 ≡ get_or s (a + i) 0
  part_byte i h = get_or-take (e - a) (drop a s) i 0 (omega arith) ∙ get_or-drop a s i 0

  pub part-first : a < e → get_or (part s a e) 0 0 ≡ get_or s a 0
  part-first h = let g : a + 0 ≡ a = omega arith in part_byte 0 (omega arith) ∙ ap (λ (i : ℕ). get_or s i 0) g

  -- a number inside
  pub part-number : (w j : ℕ) → a + j + w ≤ e → le_number w (drop j (part s a e)) ≡ le_number w (drop (a + j) s)
  part-number w j h = ap (le_number w) (part-drop j) ∙ le_take w (e - (a + j)) (drop (a + j) s) (omega arith)

  -- a body inside
  pub part-inner : (q m : ℕ) → a + q + m ≤ e → take m (drop q (part s a e)) ≡ part s (a + q) (a + q + m)
  part-inner q m h = ap (take m) (part-drop q) ∙ inner
    where
      inner : take m (part s (a + q) e) ≡ part s (a + q) (a + q + m)
      inner = let g : m ≡ a + q + m - (a + q) = omega arith in take-take m (e - (a + q)) (drop (a + q) s) (omega arith) ∙ ap (λ (i : ℕ). take i (drop (a + q) s)) g
