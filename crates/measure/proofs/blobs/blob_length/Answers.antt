-- `blobs::blob_length` meets its contract. Assumes nothing.
use native.Mathlib.Omega.{arith}
use Rattle.measure.proofs.EscapeLengths.{blob_text_length}
use Rattle.measure.proofs.blobs.blob_length.Goals as goal

pub returns : goal.returns
returns c s h = let e = blob_text_length s in omega arith
