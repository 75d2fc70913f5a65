-- Whole tapes. Assumes nothing.
use Prim.Native.Nat.{ℕ, ◌-◌}
use mathlib.Core.Path.{◌≡◌, sym, ap, ◌∙◌}
use mathlib.Core.List.{List}
use native.Mathlib.Omega.{arith}
use borrow.Author.Tests.{eq-eqb, ne_eqb}
use lib.ListN.{length, take, drop}
use Rattle.tape.specs.Bytes.{part}
use Rattle.tape.specs.Tree.{Nodes}
use Rattle.tape.specs.Tape.{walk, nodes_of}
use Rattle.tape.specs.Verdict.{verdict}
use Rattle.tape.specs.declared.Frame.TheVariants.{Top}
use Rattle.tape.proofs.Verdicts.{nodes_walked, fine_walked}
use Rattle.std.specs.declared.cmp.Ordering.TheVariants.{Equal}
use Rattle.std.specs.Prelude.{Ok, Err}
use Rattle.tape.specs.Answer.{fault_number}
use Rattle.tape.specs.declared.answer.Fault.{Fault}
use Rattle.tape.proofs.CodeWalk.{fault_some}
use Rattle.order.specs.Order.{nodes, tapes, compared}
use Rattle.order.specs.Steps.{Body, Shared}
use Rattle.order.proofs.Combine.{reflexive}
use Rattle.order.proofs.NodeOrder.{nodes_total}

pub body_fine : (t : List ℕ) → verdict t ≡ 0 → Body 65 Top t 0 (length t - 8)
body_fine t e = record { within = omega arith; room = omega arith; fine = fine_walked t e }

pub first-refused : (t u : List ℕ) (r : Fault) → verdict t ≡ fault_number r → Err (fault_number r) ≡ compared t u
unfolding compared
first-refused t u r e = rw (e, ne_eqb (fault_number r) 0 (fault_some r))

pub second-refused : (t u : List ℕ) (r : Fault) → verdict t ≡ 0 → verdict u ≡ fault_number r → Err (fault_number r) ≡ compared t u
unfolding compared
second-refused t u r g e = rw (eq-eqb (verdict t) 0 g, e, ne_eqb (fault_number r) 0 (fault_some r))

pub both_accepted : (t u : List ℕ) → verdict t ≡ 0 → verdict u ≡ 0
    → compared t u ≡ Ok (nodes (walk 65 Top (part t 0 (length t - 8))).0 (walk 65 Top (part u 0 (length u - 8))).0)
unfolding compared tapes
both_accepted t u g h = rw (eq-eqb (verdict t) 0 g, eq-eqb (verdict u) 0 h) (ap Ok (ap (λ (ns : Nodes). nodes ns (nodes_of u)) (sym (nodes_walked t)) ∙ ap (nodes (walk 65 Top (part t 0 (length t - 8))).0) (sym (nodes_walked u))))

-- tapes of which all bytes before the trailers are equal
pub all_equal : (t u : List ℕ) {n : ℕ} → verdict t ≡ 0 → verdict u ≡ 0 → Shared t 0 (length t - 8) u 0 (length u - 8) n → n ≡ length t - 8 → n ≡ length u - 8 → compared t u ≡ Ok Equal
all_equal t u {n} g h q p r =
    let x : length t - 8 - 0 ≡ n = omega arith in
    let y : n ≡ length u - 8 - 0 = omega arith in
    let same : part t 0 (length t - 8) ≡ part u 0 (length u - 8) = ap (λ (i : ℕ). take i (drop 0 t)) x ∙ q.bytes ∙ ap (λ (i : ℕ). take i (drop 0 u)) y in
    both_accepted t u g h ∙ ap Ok (ap (λ (l : List ℕ). nodes (walk 65 Top (part t 0 (length t - 8))).0 (walk 65 Top l).0) (sym same) ∙ reflexive (nodes_total 64 Top) (walk 65 Top (part t 0 (length t - 8))).0)
