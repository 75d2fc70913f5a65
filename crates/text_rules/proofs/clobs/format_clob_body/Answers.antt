-- `clobs::format_clob_body` meets its contract. Assumes nothing.
use Rattle.text_rules.proofs.clobs.format_clob_body.Goals as goal

pub returns-else-any_clob_suspect : goal.returns-else-any_clob_suspect
returns-else-any_clob_suspect c = rw (c.any_clob_suspect.ensures c.if-any_clob_suspect.false) c.put_bytes.ensures
