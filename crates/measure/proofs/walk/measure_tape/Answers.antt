-- `walk::measure_tape` meets its contract: the length, then the nodes, then their number. Assumes nothing.
use Prim.Native.Nat.{ℕ, ◌+◌, ◌-◌}
use mathlib.Core.Path.{◌≡◌, refl, sym, ap, ◌∙◌}
use mathlib.Core.List.{List}
use mathlib.Core.Bool.{Bool}
use native.Mathlib.Omega.{arith}
use lib.Dec.{eqb}
use lib.ListN.{length, get_or, drop, replicate}
use Rattle.output.specs.Logic.{if}
use Rattle.tape.specs.Bytes.{le_number, part, first}
use Rattle.tape.specs.Tree.{Nodes}
use Rattle.tape.specs.Tape.{walk, nodes_of}
use Rattle.tape.specs.declared.Frame.TheVariants.{Top}
use Rattle.tape.specs.declared.check.Checked.{Checked}
use Rattle.tape.proofs.Walking.{first-zero}
use Rattle.tape.proofs.CodeVerdict.{refuse_misfit, refuse_inner, refuse_count, accept}
use Rattle.tape.proofs.Verdicts.{nodes_walked}
use Rattle.std.proofs.lemmas.Result.{err_from_is_err_and}
use Rattle.measure.specs.Sums.{contents, separators, lasts, indents, summed}
use Rattle.measure.specs.Steps.{plus}
use Rattle.measure.proofs.SymbolLengths.{setting_is, quotes_are}
use Rattle.measure.proofs.Verdicts.{met_checks}
use Rattle.measure.proofs.walk.measure_tape.Goals as goal

-- sums that go on from nothing
from_nothing : (quoted : Bool) (ns : Nodes) → plus (replicate 4 0) (summed quoted Top 0 ns) ≡ summed quoted Top 0 ns
unfolding plus summed
from_nothing quoted ns =
    let c : 0 + contents quoted ns ≡ contents quoted ns = omega arith in
    let s : 0 + separators Top ns ≡ separators Top ns = omega arith in
    let l : 0 + lasts Top ns ≡ lasts Top ns = omega arith in
    let i : 0 + indents 0 ns ≡ indents 0 ns = omega arith in
    cc

-- what is told of the nodes, by what is seen
abbrev told : List ℕ → Checked
told seen = record { count = get_or seen 2 0; noted = eqb (get_or seen 0 0) 1; numbered = eqb (get_or seen 1 0) 1 }

pub returns-in_err-end-clause-checked : goal.returns-in_err-end-clause-checked
returns-in_err-end-clause-checked c =
    let p = err_from_is_err_and c.from_residual.result c.from_residual.ensures.1 in
    rw (p.1, p.2) (refuse_misfit c.args.tape.now _ c.in_err-end.ensures)

pub measure_nodes-requires : goal.measure_nodes-requires
measure_nodes-requires c =
    let e = c.requires in
    let n = c.in_ok-end.ensures.end in
    record { from_le_end = omega arith; end_in_bounds = omega arith; tape_len_bound = c.in_ok-end.ensures.most; depth_bound = omega arith; sums_len = rw e refl; seen_len = refl; quotes_value = quotes_are c.args.quoted _ c.quotes_of-quotes.ensures; grown_2 = rw e (record { contents = omega arith; separators = omega arith; lasts = omega arith; indents = omega arith }) }

pub returns-in_err-measure_nodes-clause-checked : goal.returns-in_err-measure_nodes-clause-checked
returns-in_err-measure_nodes-clause-checked c =
    let p = err_from_is_err_and c.from_residual-in_err-measure_nodes.result c.from_residual-in_err-measure_nodes.ensures.1 in
    rw (p.1, p.2) (refuse_inner c.args.tape.now _ c.in_ok-end.ensures _ (record { fault = c.in_err-measure_nodes.ensures.fault; counts = tt }))

pub returns-then-u32_at-seen : goal.returns-then-u32_at-seen
returns-then-u32_at-seen c =
    let m = c.in_ok-measure_nodes.ensures in
    let seen = c.measure_nodes.new.seen in
    record { checked = refuse_count c.args.tape.now _ c.in_ok-end.ensures (told seen) (met_checks _ m.fault seen m.seen) (λ e. c.if-u32_at-seen.true (c.u32_at.ensures.0 ∙ e)); sums = tt }

pub returns : goal.returns
returns c =
    let s = c.args.tape.now in
    let m = c.in_ok-measure_nodes.ensures in
    let seen = c.measure_nodes.new.seen in
    let q = c.args.quoted in
    let k = setting_is q _ c.quotes_of-quotes.ensures in
    let n = c.in_ok-end.ensures.end in
    let e : c.in_ok-end.end ≡ length s - 8 = omega arith in
    record {
      checked = accept s _ c.in_ok-end.ensures (told seen) (met_checks _ m.fault seen m.seen) (sym c.u32_at.ensures.0 ∙ c.if-u32_at-seen.false);
      sums = rw (k, e) at m.sums
          ∙ ap (λ (l : List ℕ). plus l (summed q Top 0 (walk 65 Top (part s 0 (length s - 8))).0)) c.requires
          ∙ ap (λ (ns : Nodes). plus (replicate 4 0) (summed q Top 0 ns)) (nodes_walked s) ∙ from_nothing q (nodes_of s);
    }
