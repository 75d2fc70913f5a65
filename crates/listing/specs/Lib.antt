pub mod Due
pub mod Spelling
pub mod DecodeSteps
pub mod Seen
