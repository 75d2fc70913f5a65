-- `digits::pad_clipped` meets its contract. The invariant: the digits written and the k lowest that are left are the whole. Assumes nothing.
use Rattle.output.proofs.Laws.{Progress}
use Rattle.text_rules.specs.Digits.{pad}
use Rattle.text_rules.proofs.digits.pad_clipped.Given as goal

abbrev pub invariant-loop-k : goal.invariant-loop-k
invariant-loop-k l = Progress l.initial.buf l.buf l.pos l.p (pad l.w l.n) (pad l.k l.n)

abbrev pub decreases-loop-k : goal.decreases-loop-k
decreases-loop-k l = l.k
