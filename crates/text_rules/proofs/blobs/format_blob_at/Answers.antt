-- `blobs::format_blob_at` meets its contract. Assumes nothing.
use Rattle.output.proofs.Laws.{wrote_then}
use Rattle.text_rules.specs.Text.{blob_text}
use Rattle.text_rules.proofs.blobs.format_blob_at.Goals as goal

pub returns : goal.returns
unfolding blob_text
returns c = wrote_then (wrote_then c.put_two-p.ensures c.format_base64-e.ensures) c.put_two.ensures
