-- `blobs::character` meets its contract. Assumes nothing.
use native.Mathlib.Omega.{arith}
use Rattle.text_rules.proofs.Base64Laws.{at_least_is, character-fits, character-is}
use Rattle.text_rules.proofs.blobs.character.Goals as goal

pub overflow_add-result-2 : goal.overflow_add-result-2
overflow_add-result-2 c = let p = at_least_is 26 6 _ _ c.at_least.ensures in omega arith

pub overflow_add-result-3 : goal.overflow_add-result-3
overflow_add-result-3 c = let p = at_least_is 26 6 _ _ c.at_least.ensures in let q = at_least_is 63 3 _ _ c.at_least-2.ensures in omega arith

pub overflow_sub-result : goal.overflow_sub-result
overflow_sub-result c =
    let p = at_least_is 26 6 _ _ c.at_least.ensures in
    let q = at_least_is 63 3 _ _ c.at_least-2.ensures in
    let r = at_least_is 52 75 _ _ c.at_least-3.ensures in
    omega arith

pub overflow_sub-result-2 : goal.overflow_sub-result-2
overflow_sub-result-2 c =
    let p = at_least_is 26 6 _ _ c.at_least.ensures in
    let q = at_least_is 63 3 _ _ c.at_least-2.ensures in
    let r = at_least_is 52 75 _ _ c.at_least-3.ensures in
    let t = at_least_is 62 15 _ _ c.at_least-4.ensures in
    rw (p, q, r, t) (character-fits _ (omega arith))

pub returns : goal.returns
returns c =
    let p = at_least_is 26 6 _ _ c.at_least.ensures in
    let q = at_least_is 63 3 _ _ c.at_least-2.ensures in
    let r = at_least_is 52 75 _ _ c.at_least-3.ensures in
    let t = at_least_is 62 15 _ _ c.at_least-4.ensures in
    rw (p, q, r, t) (character-is _ (omega arith))
