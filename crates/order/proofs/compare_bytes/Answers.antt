-- `order::compare_bytes` meets its contract. Assumes nothing.
use Rattle.std.proofs.Common.{◌≡◌, ◌-◌, ◌≤◌, ℕ, List, [], length, take, drop, length-drop, sym, ◌∙◌, arith}
use Rattle.std.proofs.Math.ListN.{drop_of_length-le}
use Rattle.std.proofs.Math.Seq.{take_all}
use Rattle.std.specs.Ordering.{nat_cmp}
use Rattle.std.specs.Cmp.Lexicographic.{slice_cmp}
use lib.Seq.{drop-cons}
use Rattle.order.proofs.Combine.{Told, below, equal, over, tell, less_is, equal_is}
use Rattle.order.proofs.SharedLaws.{lists_shared}
use Rattle.order.proofs.compare_bytes.Goals as goal

rest : (l : List ℕ) (n : ℕ) → take (length l - n) (drop n l) ≡ drop n l
rest l n = take_all (length l - n) (drop n l) (omega (arith, length-drop n l))

-- nothing is left of the first
ended : (s t : List ℕ) (n : ℕ) → n ≡ length s → n ≤ length t → slice_cmp nat_cmp (drop n s) (drop n t) ≡ nat_cmp n (length t)
ended s t n e h = go (tell n (length t))
  where
    none : drop n s ≡ []
    none = drop_of_length-le s (omega arith)

    go : Told n (length t) → slice_cmp nat_cmp (drop n s) (drop n t) ≡ nat_cmp n (length t)
    go (below i) = rw (none, drop-cons t n 0 i) (sym (less_is n (length t) i))
    go (equal i) = let z : drop n t ≡ [] = drop_of_length-le t (omega arith) in rw (none, z) (sym (equal_is n (length t) i))
    go (over i) = absurd (omega arith)

pub returns-then-known-s : goal.returns-then-known-s
returns-then-known-s c =
    let a = c.args in
    let w = c.requires in
    let e = lists_shared a.known a.s.now a.t.now (omega (arith, w.left)) (omega (arith, w.right)) w.bytes ∙ ended a.s.now a.t.now a.known c.if-known-s.true (omega (arith, w.right)) in
    cc

pub returns : goal.returns
returns c =
    let a = c.args in
    let w = c.requires in
    rw (rest a.s.now a.known, rest a.t.now a.known) at c.cmp-2.ensures ∙ sym (lists_shared a.known a.s.now a.t.now (omega (arith, w.left)) (omega (arith, w.right)) w.bytes)
