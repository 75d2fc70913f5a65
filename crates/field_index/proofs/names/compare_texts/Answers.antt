-- `field_index::names::compare_texts` meets its contract: the bytes so far are equal. Assumes nothing.
use Rattle.std.proofs.Common.{◌≡◌, ◌-◌, ℕ, List, length, take, drop, length-drop, refl, sym, ◌∙◌, arith}
use Rattle.std.proofs.Math.Seq.{take_all}
use Rattle.field_index.proofs.NameLaws.{apart_there, alike_there, ended}
use Rattle.field_index.proofs.names.compare_texts.Goals as goal

pub loop-i-init : goal.loop-i-init
loop-i-init c = refl

pub returns-then-is_ne : goal.returns-then-is_ne
returns-then-is_ne c =
    let l = c.loop-i in
    sym (l.invariant ∙ apart_there c.args.s.now c.args.t.now l.i (omega arith) (omega arith) _ c.cmp-order.ensures (sym c.is_ne.ensures ∙ c.if-is_ne.true))

pub loop-i-preserved : goal.loop-i-preserved
loop-i-preserved c =
    let l = c.loop-i in
    l.invariant ∙ alike_there c.args.s.now c.args.t.now l.i (omega arith) (omega arith) _ c.cmp-order.ensures (sym c.is_ne.ensures ∙ c.if-is_ne.false)

pub returns-then-near-both : goal.returns-then-near-both
returns-then-near-both c = c.cmp.ensures ∙ sym (c.loop-i.invariant ∙ ended c.args.s.now c.args.t.now c.loop-i.i (omega arith))

rest : (l : List ℕ) (n : ℕ) → take (length l - n) (drop n l) ≡ drop n l
rest l n = take_all (length l - n) (drop n l) (omega (arith, length-drop n l))

pub returns : goal.returns
returns c =
    let near = c.min-near.result in
    let e : c.loop-i.i ≡ near = omega arith in
    rw (rest c.args.s.now near, rest c.args.t.now near) at c.compare_behind.ensures ∙ sym (rw (← e) c.loop-i.invariant)
