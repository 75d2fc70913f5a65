-- `timestamp::fixed_at` meets its contract. The loop's invariant: what the digits left over say decides the whole. Assumes nothing.
use Rattle.std.proofs.Common.{◌≡◌, ◌+◌, ◌-◌, ◌^◌, ◌≤◌, ◌<◌, length, drop}
use Rattle.numbers.specs.TimestampRead.{joined}
use Rattle.numbers.proofs.timestamp.fixed_at.Given as goal

abbrev pub invariant-loop-i : goal.invariant-loop-i
invariant-loop-i l = (l.i ≤ length l.text) × (l.n < 10 ^ (l.i - l.at)) × (joined 0 l.w (drop l.at l.text) ≡ joined l.n (l.at + l.w - l.i) (drop l.i l.text))
