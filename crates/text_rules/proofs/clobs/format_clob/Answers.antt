-- `clobs::format_clob` meets its contract. Assumes nothing.
use Rattle.output.specs.Wrote.{le_bytes}
use Rattle.output.proofs.Laws.{wrote_then}
use Rattle.text_rules.specs.Text.{clob_text}
use Rattle.text_rules.proofs.clobs.format_clob.Goals as goal

pub returns : goal.returns
unfolding clob_text le_bytes
returns c = wrote_then (wrote_then c.put_le-p.ensures c.format_clob_body-e.ensures) c.put_le.ensures
