-- `line_reader::read_lines` meets its contract. Assumes nothing.
use Rattle.std.proofs.Common.{◌≡◌, ℕ, ◌+◌, ◌<◌, length, arith, refl, sym, ap, ◌∙◌}
use Rattle.line_reader.specs.Calls.{step, called}
use Rattle.line_reader.proofs.RunLaws.{upto-none, upto_more, stored_more, upto_ran}
use Rattle.line_reader.proofs.read_lines.Goals as goal

pub loop-i-init : goal.loop-i-init
loop-i-init c =
    let t = c.args.text.now in
    let b = c.args.out.now in
    let r = c.args.calls.now in
    (upto-none t b r, refl, sym c.new-s.ensures.1, refl, refl, ap (λ x. x.now) c.new-s.ensures.0)

pub loop-i-preserved : goal.loop-i-preserved
loop-i-preserved c =
    let t = c.args.text.now in
    let b = c.args.out.now in
    let r = c.args.calls.now in
    let v = c.loop-i.invariant in
    let u = v.0 in
    let n = c.next-answer in
    let lt : u.count < length r = omega arith in
    let l : length n.new.out ≡ length u.buf = n.auto.out ∙ ap length (sym v.3) in
    let e : called n.result n.new.s.at n.new.out ≡ step t u.at u.buf = rw (v.2, v.3, ← v.5) n.ensures.1 in (
      upto_more t b r u lt n.result n.new.s.at n.new.out l e,
      ap (λ (k : ℕ). k + 1) v.1,
      refl,
      refl,
      sym (stored_more t b r u lt n.result n.new.s.at n.new.out l e) ∙ rw (v.4, v.1),
      ap (λ x. x.now) n.ensures.0 ∙ v.5,
    )

pub returns : goal.returns
returns c =
    let v = c.loop-i.invariant in
    let e : v.0.count ≡ length c.args.calls.now = omega arith in
    rw (← v.4, ← v.2, ← v.3) (upto_ran c.args.text.now c.args.out.now c.args.calls.now v.0 e)
