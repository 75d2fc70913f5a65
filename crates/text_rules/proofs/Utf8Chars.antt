-- Passed on from the crate `characters` to the crates above.
pub use Rattle.characters.proofs.Utf8Chars.{ascii, and_left, and_second, and-third, char_in, char_drop, skip, step, stop, ascii_step}
