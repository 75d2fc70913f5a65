-- `field_index::names::compare_texts` meets its contract: the bytes so far are equal. Assumes nothing.
use Rattle.std.proofs.Common.{◌≡◌, drop}
use Rattle.std.specs.Ordering.{nat_cmp}
use Rattle.std.specs.Cmp.Lexicographic.{slice_cmp}
use Rattle.field_index.proofs.names.compare_texts.Given as goal

abbrev pub invariant-loop-i : goal.invariant-loop-i
invariant-loop-i l = slice_cmp nat_cmp l.s l.t ≡ slice_cmp nat_cmp (drop l.i l.s) (drop l.i l.t)
