-- The invariant: the calls so far were made, each from what the last one left. Assumes nothing.
use Rattle.std.proofs.Common.{◌≡◌}
use Rattle.line_reader.proofs.RunLaws.{Upto, stored}
use Rattle.line_reader.proofs.read_lines.Given as goal

abbrev pub invariant-loop-i : goal.invariant-loop-i
invariant-loop-i l =
    (u : Upto l.text l.initial.out l.initial.calls)
    × (u.count ≡ l.i)
    × (u.at ≡ l.s.at)
    × (u.buf ≡ l.out)
    × (stored l.text l.initial.out l.initial.calls u ≡ l.calls)
    × (l.s.text.now ≡ l.text)
