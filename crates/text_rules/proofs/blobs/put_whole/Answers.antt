-- `blobs::put_whole` meets its contract. Assumes nothing.
use mathlib.Core.Path.{◌≡◌}
use native.Mathlib.Omega.{arith}
use lib.ListN.{length, take, drop}
use Rattle.text_rules.proofs.Base64Laws.{part_length, part_bytes, wrote_whole}
use borrow.Author.Rules.{rules}
use Rattle.text_rules.proofs.blobs.put_whole.Goals as goal

pub returns : goal.returns
returns c =
    let a = c.args in
    let k = c.shared_slice_known-1.given in
    let w = c.put_sextets-p.ensures in
    let n : length (take a.n (drop a.from a.s.now)) ≡ a.n = part_length a.s.now a.from a.n (omega arith) in
    wrote_whole _ _ _ _ _ _ (rw n (omega arith)) (part_bytes a.s.now a.from a.n (λ j. (k j).fits)) (search rules) (rw n w.place) (omega arith) w.bytes c.print_sextets.ensures
