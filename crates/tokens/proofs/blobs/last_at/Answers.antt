-- `blobs::last_at` meets its contract. Assumes nothing.
use mathlib.Core.List.{[]}
use mathlib.Core.Option.{none, some}
use native.Mathlib.Omega.{arith}
use lib.ListN.{length-drop}
use Rattle.output.proofs.Laws.{wrote_empty}
use Rattle.tokens.proofs.ClobSteps.{stripped_no, stripped_yes}
use Rattle.tokens.proofs.Keeping.{kept_all}
use Rattle.tokens.proofs.BlobEnds.{rest-closed, rest_end, last-other, last_unclosed, last_one, last_two, last_copies}
use borrow.Author.Rules.{rules}
use Rattle.tokens.proofs.blobs.last_at.Goals as goal
use Rattle.tokens.proofs.blobs.last_at.Goals.{then-text-at-lt4-via-then-text-at-lt4 as short, then-text-at-lt4-via-else-text-at-lt4+then-text-at-ne61 as other, then-text-at-lt4-via-else-text-at-lt4+else-text-at-ne61+then-not-word_stands as loose}

pub returns-then-word_stands : goal.returns-then-word_stands
returns-then-word_stands c =
    let k = stripped_yes c.word_stands.ensures c.if-word_stands.true in
    record { told = ([], rest-closed _ _ k.0, omega arith, k.1, wrote_empty _ _ _ c.bounded.ensures (search rules)) }

pub returns-then-text-at-lt4 : goal.returns-then-text-at-lt4
returns-then-text-at-lt4 c =
    let a = c.args in
    let unclosed = stripped_no c.word_stands.ensures c.if-word_stands.false in
    record { told = (elim c.then-text-at-lt4.branch [ short w ↦ rest_end _ unclosed (omega (arith, length-drop a.at a.text.now)) | other w ↦ last-other a.text.now a.at (omega arith) unclosed c.requires.text_value w.if-text-at-ne61.true | loose w ↦ last_unclosed a.text.now a.at (omega arith) unclosed w.if-text-at-ne61.false (stripped_no w.word_stands-else-text-at-ne61.ensures w.if-not-word_stands.true) ], kept_all) }

pub returns-in_err-n : goal.returns-in_err-n
returns-in_err-n c =
    let a = c.args in
    let k = stripped_yes c.word_stands-else-text-at-ne61.ensures c.if-not-word_stands.false in
    rw c.from_residual.ensures record { told = (last_one a.text.now a.at (omega arith) (stripped_no c.word_stands.ensures c.if-word_stands.false) c.if-text-at-ne61.false none k.0 c.if-text-at-eq61.true c.in_err-n.ensures.bits, kept_all) }

pub first_bytes-requires : goal.first_bytes-requires
first_bytes-requires c = (c.in_ok-n.ensures.below, omega arith, omega arith)

pub returns-then-text-at-eq61 : goal.returns-then-text-at-eq61
returns-then-text-at-eq61 c =
    let a = c.args in
    let k = stripped_yes c.word_stands-else-text-at-ne61.ensures c.if-not-word_stands.false in
    last_copies _ (omega arith) (omega (arith, k.1)) (last_one a.text.now a.at (omega arith) (stripped_no c.word_stands.ensures c.if-word_stands.false) c.if-text-at-ne61.false (some c.in_ok-n.n) k.0 c.if-text-at-eq61.true c.in_ok-n.ensures.bits) c.first_bytes.ensures

pub returns-in_err-n-2 : goal.returns-in_err-n-2
returns-in_err-n-2 c =
    let a = c.args in
    let k = stripped_yes c.word_stands-else-text-at-ne61.ensures c.if-not-word_stands.false in
    rw c.from_residual-in_err-n-2.ensures record { told = (last_two a.text.now a.at (omega arith) (stripped_no c.word_stands.ensures c.if-word_stands.false) c.if-text-at-ne61.false none k.0 c.if-text-at-eq61.false c.in_err-n-2.ensures.bits, kept_all) }

pub first_bytes-requires-2 : goal.first_bytes-requires-2
first_bytes-requires-2 c = (c.in_ok-n-2.ensures.below, omega arith, omega arith)

pub returns : goal.returns
returns c =
    let a = c.args in
    let k = stripped_yes c.word_stands-else-text-at-ne61.ensures c.if-not-word_stands.false in
    last_copies _ (omega arith) (omega (arith, k.1)) (last_two a.text.now a.at (omega arith) (stripped_no c.word_stands.ensures c.if-word_stands.false) c.if-text-at-ne61.false (some c.in_ok-n-2.n) k.0 c.if-text-at-eq61.false c.in_ok-n-2.ensures.bits) c.first_bytes-2.ensures
