-- What validation answers, for every tape. Assumes nothing: these are definitions.
use Rattle.std.specs.Prelude.{ℕ, ◌≡◌, ◌+◌, ◌≤◌, List, length, Result, IfOk, OnOk}
use Rattle.output.specs.Logic.{if}
use Rattle.tape.specs.Tree.{Nodes, size}
use Rattle.tape.specs.Tape.{body_of}
use Rattle.tape.specs.Refusal.{noteds, numbereds}
use Rattle.tape.specs.Verdict.{misfit, verdict}
use Rattle.tape.specs.Answer.{fault_of}
use Rattle.tape.specs.declared.answer.Fault.{Fault}
use Rattle.tape.specs.declared.check.Checked.{Checked}

-- what is said of the nodes of a body that has no problem: how many there are, whether one is annotated, whether one is an identifier but 0
pub record Counts (ns : Nodes) (r : Checked) : Type 0 where
  pub count : r.count ≡ size ns
  pub noted : r.noted ≡ noteds ns
  pub numbered : r.numbered ≡ numbereds ns

-- the length of a tape: where it fits, the nodes end 8 bytes before the end
pub record BodyEnds (t : List ℕ) (r : Result ℕ Fault) : Type 0 where
  pub fault : fault_of r ≡ if (misfit t) 1 0
  pub end : IfOk r (λ e. e + 8 ≡ length t)
  pub most : OnOk r (length t ≤ 1_048_576)

-- the whole tape
pub record TapeChecks (t : List ℕ) (r : Result Checked Fault) : Type 0 where
  pub fault : fault_of r ≡ verdict t
  pub counts : IfOk r (λ c. Counts (body_of t).0 c)
