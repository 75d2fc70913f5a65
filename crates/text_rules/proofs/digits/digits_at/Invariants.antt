-- `digits::digits_at` meets its contract. The loop's invariant: what the digits from the present place give is what those from the first give. Assumes nothing.
use Rattle.std.proofs.Common.{ℕ, ◌^◌, ◌<◌, Option}
use Rattle.text_rules.specs.DigitSteps.{RunJoined}
use Rattle.text_rules.proofs.digits.digits_at.Given as goal

abbrev pub invariant-loop-i : goal.invariant-loop-i
invariant-loop-i l = (l.n < 2 ^ 64) × ((r : Option (ℕ × ℕ)) → RunJoined l.text l.i l.n r → RunJoined l.text l.from l.acc r)
