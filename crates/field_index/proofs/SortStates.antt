-- The states of `sort`'s loop, over any order.
--     Sorts           h and v are where a heapsort of v₀ may stand
--     at_first        the start
--     places_in, to_in   where a turn looks and stores
--     full-turn       a turn looks at v alone, full-after: and stores to it alone
--     onward, lower   the state after a turn, and its height
--     at_last         the end
-- Assumes nothing.
use mathlib.Core.Path.{◌≡◌, refl, ap, ◌∙◌}
use mathlib.Core.Bool.{Bool}
use mathlib.Core.List.{List, ◌++◌}
use Prim.Native.Nat.{ℕ, ◌^◌, ◌≤◌, ◌<◌}
use native.Mathlib.Omega.{arith}
use lib.ListN.{length, get_or, set, get_or-append}
use lib.Seq.{set-append_left, lt-length-set}
use Rattle.field_index.specs.declared.Entry.{Entry}
use Rattle.field_index.specs.declared.heapsort.Heap.{Heap}
use Rattle.field_index.specs.declared.heapsort.Turn.{Turn}
use Rattle.field_index.specs.Names.{no_entry}
use Rattle.field_index.specs.Sorted.{Order, Same, sorted}
use Rattle.field_index.specs.HeapSteps.{turn_of, turn_at, after, start_of}
use Rattle.field_index.proofs.SortedLaws.{same_length, is_sorted}
use Rattle.field_index.proofs.TurnLaws.{Good, Turned, started, turned_good, places, height, falls, ended}

pub record Sorts (b : Entry → Entry → Bool) (v₀ : List Entry) (h : Heap) (v : List Entry) : Type 0 where
  pub deep : ℕ
  pub good : Good b v h deep
  pub same : Same v v₀

module _ (b : Entry → Entry → Bool) (o : Order b) (v₀ : List Entry) (few : length v₀ < 2 ^ 64) where
  pub at_first : Sorts b v₀ (start_of (length v₀)) v₀
  at_first = record { deep = (started b o 64 v₀).0; good = (started b o 64 v₀).1; same = λ p. refl }

  pub at_last : (h : Heap) (v : List Entry) → Sorts b v₀ h v → h.hi ≤ 1 → v ≡ sorted b v₀
  at_last h v s l = is_sorted b o v₀ v (ended b o 64 v h s.deep s.good l) s.same

  module _ (h : Heap) (v : List Entry) (s : Sorts b v₀ h v) (some : 1 < h.hi) where
    alike : length v ≡ length v₀
    alike = same_length v v₀ s.same

    fewer : length v < 2 ^ 64
    fewer = omega (arith, alike)

    abbrev T : Turned b 64 v h s.deep (turn_at b v h)
    T = turned_good b o 64 v fewer h s.deep s.good some

    pub places_in : (h.at < length v) × (h.left < length v) × (h.right < length v)
    places_in = places b o 64 v fewer h s.deep s.good some

    module _ (t : Turn) (is-t : t ≡ turn_at b v h) where
      pub to_in : t.to < length v
      to_in = rw is-t T.to_in

      pub onward : Sorts b v₀ t.next (set (set v h.at t.first) t.to t.second)
      onward = rw is-t (record { deep = T.next.deep'; good = T.next.good; same = λ p. T.same p ∙ s.same p })

      pub lower : height (length v₀) t.next < height (length v₀) h
      lower = rw is-t (falls b o 64 v fewer h s.deep s.good some (length v₀) (omega (arith, s.good.inside, alike)))

-- the entries to sort are v, those behind them `rest`
module _ (b : Entry → Entry → Bool) (o : Order b) (v₀ rest : List Entry) (few : length v₀ < 2 ^ 64) where
  module _ (h : Heap) (v : List Entry) (s : Sorts b v₀ h v) (some : 1 < h.hi) where
    P : (h.at < length v) × (h.left < length v) × (h.right < length v)
    P = places_in b o v₀ few h v s some

    pub full-turn : turn_at b (v ++ rest) h ≡ turn_at b v h
    full-turn =
        ap (λ (x : Entry). turn_of b h x (get_or (v ++ rest) h.left no_entry) (get_or (v ++ rest) h.right no_entry)) (get_or-append v rest no_entry h.at P.0)
        ∙ ap (λ (y : Entry). turn_of b h (get_or v h.at no_entry) y (get_or (v ++ rest) h.right no_entry)) (get_or-append v rest no_entry h.left P.1)
        ∙ ap (λ (z : Entry). turn_of b h (get_or v h.at no_entry) (get_or v h.left no_entry) z) (get_or-append v rest no_entry h.right P.2)

    stored : (t : Turn) → t.to < length v → set (set (v ++ rest) h.at t.first) t.to t.second ≡ set (set v h.at t.first) t.to t.second ++ rest
    stored t l = ap (λ (w : List Entry). set w t.to t.second) (set-append_left v rest h.at t.first P.0) ∙ set-append_left (set v h.at t.first) rest t.to t.second (lt-length-set v h.at t.first l)

    pub full-after : after b (v ++ rest) h ≡ after b v h ++ rest
    full-after = ap (λ (t : Turn). set (set (v ++ rest) h.at t.first) t.to t.second) full-turn ∙ stored (turn_at b v h) (to_in b o v₀ few h v s some (turn_at b v h) refl)
