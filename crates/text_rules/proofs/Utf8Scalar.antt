-- Passed on from the crate `characters` to the crates above.
pub use Rattle.characters.proofs.Utf8Scalar.{scalar-small}
