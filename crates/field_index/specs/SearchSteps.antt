-- A search, a turn at a time. Assumes nothing: these are definitions.
use Rattle.std.specs.Prelude.{Bool, true, false, List, ℕ, zero, suc, ◌+◌, ◌-◌, ◌/◌, ltb, get_or, Option, None, Some}
use Rattle.std.proofs.Math.Option as maybe
use Rattle.std.specs.declared.cmp.Ordering.{Ordering}
use Rattle.std.specs.declared.cmp.Ordering.TheVariants.{Less, Equal, Greater}
use Rattle.output.specs.Logic.{if}
use Rattle.field_index.specs.declared.search.Range.{Range}

-- what is left, and its middle; `same` tells whether the entry at hi has the name
abbrev pub range_of : ℕ → ℕ → Bool → Range
range_of lo hi same = record { lo = lo; hi = hi; mid = lo + (hi - lo) / 2; same = same }

abbrev pub narrowed_of : Ordering → Range → Range
narrowed_of Less r = range_of (r.mid + 1) r.hi r.same
narrowed_of Equal r = range_of r.lo r.mid true
narrowed_of Greater r = range_of r.lo r.mid false

-- the answer, once nothing is left
abbrev pub answer_of : Range → Option ℕ
answer_of r = if r.same (Some r.lo) None

-- the answer of a search by a comparison c, after k comparisons at most; none where there is still one to make
unfoldable pub searched : {A : Type 0} → ℕ → (A → Ordering) → A → List A → Range → maybe.Option (Option ℕ)
searched zero c d l r = if (ltb r.lo r.hi) maybe.none (maybe.some (answer_of r))
searched (suc k) c d l r = if (ltb r.lo r.hi) (searched k c d l (narrowed_of (c (get_or l r.mid d)) r)) (maybe.some (answer_of r))
