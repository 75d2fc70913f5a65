-- `blobs::put_bytes24` meets its contract. Assumes nothing.
use mathlib.Core.Path.{sym}
use Rattle.tokens.proofs.BlobWrites.{bytes_le}
use Rattle.tokens.proofs.blobs.put_bytes24.Goals as goal

pub returns : goal.returns
returns c =
    let a = c.args in
    rw (sym (bytes_le a.n a.width c.requires.0 c.requires.1)) c.put_le.ensures
