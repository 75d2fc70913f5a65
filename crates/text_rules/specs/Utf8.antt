-- UTF-8 is defined in the crate `characters`; here its names are passed on to the crates above.
pub use Rattle.characters.specs.Utf8.{value2, value3, value4, char_at}
unfoldable pub use Rattle.characters.specs.Utf8.{lead_of, is_cont, is_scalar, ok2, ok3, ok4, char_of, after, valid, utf8}
