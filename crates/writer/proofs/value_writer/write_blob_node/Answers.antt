-- `value_writer::write_blob_node` meets its contract. Assumes nothing.
use Rattle.tape.proofs.Parts.{trailed}
use Rattle.writer.specs.Text.{scalar_text}
use Rattle.writer.proofs.Leaves.{blob_leaf}
use Rattle.writer.proofs.value_writer.write_blob_node.Goals as goal

pub write_blob-p-requires : goal.write_blob-p-requires
write_blob-p-requires c =
    let a = c.args in
    let q = blob_leaf a.tape.now a.at a.end c.requires.at_le_end (trailed c.requires.end_in_bounds) c.requires.nonzero _ c.u32_at-n.ensures.0 c.requires.at_value in
    record { n_bound = q.room; end_in_bounds = trailed c.requires.end_in_bounds }

pub returns : goal.returns
unfolding scalar_text
returns c =
    let a = c.args in
    let q = blob_leaf a.tape.now a.at a.end c.requires.at_le_end (trailed c.requires.end_in_bounds) c.requires.nonzero _ c.u32_at-n.ensures.0 c.requires.at_value in
    record { text = (λ quoted. rw q.read c.write_blob-p.ensures); place = rw q.read }
