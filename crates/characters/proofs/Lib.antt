pub mod Utf8Ones
pub mod Utf8Chars
pub mod Utf8Scalar
pub mod Utf8View
pub mod AsciiWords
