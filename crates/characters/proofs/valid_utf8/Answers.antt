-- `characters::valid_utf8` meets its contract. Assumes nothing.
use mathlib.Core.Path.{sym, ap, ◌∙◌}
use mathlib.Core.List.{List}
use Prim.Native.Nat.{ℕ}
use lib.Seq.{drop-length}
use borrow.Author.Tests.{lt-ltb}
use Rattle.characters.specs.Utf8.{after, valid}
use Rattle.characters.proofs.valid_utf8.Goals as goal

pub returns-then-or_first-lt128 : goal.returns-then-or_first-lt128
unfolding after valid
returns-then-or_first-lt128 c =
    let s = c.args.s.now in
    lt-ltb _ _ c.if-or_first-lt128.true ∙ sym (c.or_first.ensures c.if-or_first-lt128.true ∙ ap (λ (t : List ℕ). valid t) (drop-length s))
