-- `blobs::blob_at` meets its contract. Assumes nothing.
use Rattle.tokens.proofs.ClobSteps.{stripped_no, stripped_yes}
use Rattle.tokens.proofs.Keeping.{kept_all}
use Rattle.tokens.proofs.BlobGroups.{copies_behind, blob_unopened, blob_opened}
use borrow.Author.Rules.{rules}
use Rattle.tokens.proofs.blobs.blob_at.Goals as goal

pub returns-then-not-word_stands : goal.returns-then-not-word_stands
returns-then-not-word_stands c = record { told = (blob_unopened _ (stripped_no c.word_stands.ensures (c.if-not-word_stands.true)), kept_all) }

pub words_at-w-requires : goal.words_at-w-requires
words_at-w-requires c = (stripped_yes c.word_stands.ensures (c.if-not-word_stands.false)).1

pub returns : goal.returns
returns c =
    let k = stripped_yes c.word_stands.ensures (c.if-not-word_stands.false) in
    blob_opened _ k.0 (copies_behind _ c.words_at-w.ensures (copies_behind _ c.groups_at-g.ensures.read c.last_at.ensures))
