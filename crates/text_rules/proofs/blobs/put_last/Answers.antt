-- `blobs::put_last` meets its contract. Assumes nothing.
use mathlib.Core.Path.{◌≡◌, refl, sym, ap, ◌∙◌}
use mathlib.Core.List.{List, [], ◌∷◌}
use Prim.Native.Nat.{ℕ, ◌+◌, ◌-◌}
use native.Mathlib.Omega.{arith}
use lib.ListN.{length, take, drop, get_or}
use Rattle.output.proofs.Laws.{wrote_empty, wrote_then}
use Rattle.text_rules.specs.Base64.{base64}
use Rattle.text_rules.proofs.Base64Laws.{part_length, part_bytes, base64_one, base64_two}
use borrow.Author.Rules.{rules}
use Rattle.text_rules.proofs.blobs.put_last.Goals as goal

alone : (l : List ℕ) → length l ≡ 1 → l ≡ get_or l 0 0 ∷ []
alone [] h = absurd (omega arith)
alone (x ∷ []) h = refl
alone (x ∷ y ∷ l) h = absurd (omega arith)

pair : (l : List ℕ) → length l ≡ 2 → l ≡ get_or l 0 0 ∷ get_or l 1 0 ∷ []
pair [] h = absurd (omega arith)
pair (x ∷ []) h = absurd (omega arith)
pair (x ∷ y ∷ []) h = refl
pair (x ∷ y ∷ z ∷ l) h = absurd (omega arith)

pub returns-in-len1 : goal.returns-in-len1
returns-in-len1 c =
    let a = c.args in
    let l = take (a.from + a.n - a.from) (drop a.from a.s.now) in
    let e : a.from + a.n - a.from ≡ a.n = omega arith in
    let h : length l ≡ 1 = omega arith in
    let q : take a.n (drop a.from a.s.now) ≡ get_or l 0 0 ∷ [] = ap (λ (k : ℕ). take k (drop a.from a.s.now)) (sym e) ∙ alone l h in
    let f = part_bytes a.s.now a.from (a.from + a.n - a.from) (λ j. (c.type_inv.s j).fits) in
    rw (q, base64_one (get_or l 0 0) (f 0), sym c.character.ensures, sym c.character-in-len1.ensures) (wrote_then c.put_two-p.ensures c.put_two.ensures)

pub returns-in-len2 : goal.returns-in-len2
returns-in-len2 c =
    let a = c.args in
    let l = take (a.from + a.n - a.from) (drop a.from a.s.now) in
    let e : a.from + a.n - a.from ≡ a.n = omega arith in
    let h : length l ≡ 2 = omega arith in
    let q : take a.n (drop a.from a.s.now) ≡ get_or l 0 0 ∷ get_or l 1 0 ∷ [] = ap (λ (k : ℕ). take k (drop a.from a.s.now)) (sym e) ∙ pair l h in
    let f = part_bytes a.s.now a.from (a.from + a.n - a.from) (λ j. (c.type_inv.s j).fits) in
    rw (q, base64_two (get_or l 0 0) (get_or l 1 0) (f 0) (f 1), sym c.character-in-len2.ensures, sym c.character-in-len2-2.ensures, sym c.character-in-len2-3.ensures) (wrote_then c.put_two-p-in-len2.ensures c.put_two-in-len2.ensures)

pub returns-in_default : goal.returns-in_default
unfolding base64
returns-in_default c =
    let a = c.args in
    let z : a.n ≡ 0 = omega (arith, part_length a.s.now a.from (a.from + a.n - a.from) (omega arith)) in
    rw z (wrote_empty _ _ _ c.bounded-none.ensures (search rules))
