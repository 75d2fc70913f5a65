-- `converter::convert` meets its contract. Assumes nothing.
use Prim.Native.Nat.{ℕ, ◌+◌, ◌≤◌}
use mathlib.Core.Path.{◌≡◌, sym, ap, ◌∙◌}
use mathlib.Core.List.{List, ◌++◌}
use native.Mathlib.Omega.{arith}
use lib.ListN.{length, drop}
use lib.Seq.{sets-eq}
use Rattle.tape.specs.Answer.{counted}
use Rattle.converter.specs.Convert.{converted}
use Rattle.converter.proofs.Answers.{thirteen, fourteen, finished}
use Rattle.converter.proofs.Texts.{length_least}
use Rattle.converter.proofs.convert.Goals as goal

pub returns-then-not-is_old : goal.returns-then-not-is_old
returns-then-not-is_old c =
    let a = c.args in
    let r = thirteen a.text.now a.out.now (sym c.is_old.ensures ∙ c.if-not-is_old.true) in
    record { answer = r.0; buffer = r.1 }

pub returns-then-out-text : goal.returns-then-out-text
returns-then-out-text c =
    let a = c.args in
    let r = fourteen a.text.now a.out.now (sym c.is_old.ensures ∙ c.if-not-is_old.false) (omega (arith, length_least a.text.now, c.if-out-text.true)) in
    record { answer = r.0; buffer = r.1 }

pub returns-then-out-text-2 : goal.returns-then-out-text-2
returns-then-out-text-2 c =
    let a = c.args in
    let r = fourteen a.text.now a.out.now (sym c.is_old.ensures ∙ c.if-not-is_old.false) (omega (arith, c.replaced_count-c.ensures, c.if-out-text-2.true, c.if-out-text.false)) in
    record { answer = r.0; buffer = r.1 }

pub returns : goal.returns
returns c =
    let a = c.args in
    let t : List ℕ = a.text.now in
    let o : List ℕ = a.out.now in
    let w = c.put_output-n.ensures in
    let k = c.well_formed in
    let l = c.replaced_count-c.ensures in
    let fits : length (converted t) ≤ length o = omega (arith, l, c.if-out-text-2.false, c.if-out-text.false) in
    let f = finished t o (sym c.is_old.ensures ∙ c.if-not-is_old.false) fits in
    let n : c.put_output-n.result ≡ length (converted t) = omega (arith, w.count, w.room, l, c.if-out-text-2.false, c.if-out-text.false) in
    let z : 0 + length (converted t) ≡ length (converted t) = omega arith in
    record { answer = ap counted n ∙ f.0; buffer = w.bytes ∙ sets-eq (converted t) o 0 (rw z fits) ∙ ap (λ (m : ℕ). converted t ++ drop m o) z ∙ f.1 }
