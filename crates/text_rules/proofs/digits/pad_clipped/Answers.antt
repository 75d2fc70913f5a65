-- `digits::pad_clipped` meets its contract. The invariant: the digits written and the k lowest that are left are the whole. Assumes nothing.
use mathlib.Core.Path.{◌≡◌, sym, ap, ◌∙◌}
use mathlib.Core.List.{◌∷◌}
use Prim.Native.Nat.{ℕ, suc, ◌-◌}
use native.Mathlib.Omega.{arith}
use Rattle.output.proofs.Laws.{start, more, finish, wrote-past, wrote-length}
use Rattle.text_rules.specs.Digits.{pad}
use Rattle.text_rules.proofs.DigitLaws.{length-pad, pad-first}
use borrow.Author.Rules.{rules}
use Rattle.text_rules.proofs.digits.pad_clipped.Goals as goal

pub returns-then-buf-pos : goal.returns-then-buf-pos
returns-then-buf-pos c =
    let a = c.args in
    wrote-past _ _ _ a.w (pad a.w a.n) c.if-buf-pos.true (search rules) (length-pad a.w a.n) c.ahead.ensures

pub loop-k-init : goal.loop-k-init
loop-k-init c = start _ _ _ (search rules) (search rules)

pub loop-k-preserved : goal.loop-k-preserved
loop-k-preserved c =
    let l = c.loop-k in
    let n = c.args.n in
    let e : l.k ≡ suc (l.k - 1) = omega arith in
    more l.invariant c.put-p.ensures (ap (λ (k : ℕ). pad k n) e ∙ pad-first (l.k - 1) n ∙ ap (λ (d : ℕ). d ∷ pad (l.k - 1) n) (sym c.digit_before.ensures))

pub shape_of-buf : goal.shape_of-buf
shape_of-buf c = wrote-length c.loop-k.invariant.wrote

pub returns : goal.returns
unfolding pad
returns c =
    let z : c.loop-k.k ≡ 0 = omega arith in
    finish c.loop-k.invariant (ap (λ (k : ℕ). pad k c.args.n) z)
