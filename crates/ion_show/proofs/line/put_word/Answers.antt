-- `ion_show::line::put_word` meets its contract. The invariant: the word that is asked for is the one so many words behind the place. Assumes nothing.
use Prim.Native.Nat.{ℕ, suc, ◌+◌, ◌-◌}
use mathlib.Core.Path.{◌≡◌, ap, ◌∙◌}
use native.Mathlib.Omega.{arith}
use lib.ListN.{drop}
use Rattle.output.proofs.Laws.{wrote_empty}
use Rattle.ion_show.specs.Lines.{nth}
use Rattle.ion_show.proofs.NthLaws.{nth_here, nth-next, nth_past}
use borrow.Author.Rules.{rules}
use Rattle.ion_show.proofs.line.put_word.Goals as goal

pub returns-then-end-words : goal.returns-then-end-words
returns-then-end-words c =
    let l = c.loop-passed in
    let w = c.args.words.now in
    let f = c.find-end.ensures.0 in
    let k = c.args.number - l._passed in
    let e : k ≡ suc (k - 1) = omega arith in
    let h = l.invariant.1 ∙ ap (λ (k : ℕ). nth k (drop l.at w)) e ∙ nth_past w l.at _ f (omega arith) (k - 1) in
    rw h (wrote_empty _ _ _ c.bounded.ensures (search rules))

pub loop-passed-preserved : goal.loop-passed-preserved
loop-passed-preserved c =
    let l = c.loop-passed in
    let w = c.args.words.now in
    let f = c.find-end.ensures.0 in
    let k = c.args.number - l._passed in
    let e : k ≡ suc (k - 1) = omega arith in
    let m : k - 1 ≡ c.args.number - (l._passed + 1) = omega arith in
    (omega arith, l.invariant.1 ∙ ap (λ (k : ℕ). nth k (drop l.at w)) e ∙ nth-next w l.at _ f (k - 1) ∙ ap (λ (j : ℕ). nth j (drop (c.find-end.result + 1) w)) m)

pub returns : goal.returns
returns c =
    let l = c.loop-passed in
    let w = c.args.words.now in
    let f = c.find-end-2.ensures.0 in
    let e : c.args.number - l._passed ≡ 0 = omega arith in
    let h = l.invariant.1 ∙ ap (λ (k : ℕ). nth k (drop l.at w)) e ∙ nth_here w l.at _ f in
    rw h c.put_bytes.ensures
