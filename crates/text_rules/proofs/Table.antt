-- Passed on from the crate `lanes` to the crates above.
pub use Rattle.lanes.proofs.Table.{tabulate, rule, same}
