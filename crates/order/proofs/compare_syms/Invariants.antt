-- `order::compare_syms` meets its contract. Assumes nothing.
-- k symbols are equal, and the others stand from x and y on
use Rattle.std.proofs.Common.{◌≡◌, ◌+◌, ◌-◌}
use Rattle.std.specs.Cmp.Lexicographic.{slice_cmp}
use Rattle.tape.specs.Bytes.{part}
use Rattle.tape.specs.Tape.{syms_of}
use Rattle.tape.specs.Steps.{size_taken}
use Rattle.order.specs.Order.{syms}
use Rattle.order.specs.Steps.{syms_in, Symbols}
use Rattle.order.proofs.compare_syms.Given as goal

abbrev pub invariant-loop-k : goal.invariant-loop-k
invariant-loop-k l = record {
  left : Symbols (l.na - l.k) l.a l.x l.ea;
  right : Symbols (l.nb - l.k) l.b l.y l.eb;
  order : slice_cmp syms (syms_in l.na (part l.a l.i l.ea)) (syms_in l.nb (part l.b l.j l.eb)) ≡ slice_cmp syms (syms_in (l.na - l.k) (part l.a l.x l.ea)) (syms_in (l.nb - l.k) (part l.b l.y l.eb));
  ends : l.i + size_taken (syms_of l.na (part l.a l.i l.ea)) ≡ l.x + size_taken (syms_of (l.na - l.k) (part l.a l.x l.ea));
  ends_2 : l.j + size_taken (syms_of l.nb (part l.b l.j l.eb)) ≡ l.y + size_taken (syms_of (l.nb - l.k) (part l.b l.y l.eb));
}
