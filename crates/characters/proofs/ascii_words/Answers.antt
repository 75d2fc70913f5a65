-- `characters::ascii_words` meets its contract. Assumes nothing.
use Prim.Native.Nat.{◌+◌, ◌*◌}
use mathlib.Core.Path.{◌≡◌, ◌∙◌}
use native.Mathlib.Omega.{arith}
use Rattle.characters.proofs.AsciiWords.{word-passed}
use Rattle.characters.proofs.ascii_words.Goals as goal

pub loop-k-preserved : goal.loop-k-preserved
loop-k-preserved c =
    let w = c.word_at in
    let i = c.args.from + 8 * c.loop-k.k in
    let e : c.args.from + 8 * (c.loop-k.k + 1) ≡ i + 8 = omega arith in
    rw e (c.loop-k.invariant ∙ word-passed c.args.s.now i w.result w.type_inv w.ensures c.if-word_at-ne0.false)
