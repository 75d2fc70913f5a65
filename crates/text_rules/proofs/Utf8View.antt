-- Passed on from the crate `characters` to the crates above.
pub use Rattle.characters.proofs.Utf8View.{Char, one, two, three, four, char-at, char_some, valid_char, View, view, utf8_char, ascii_char}
