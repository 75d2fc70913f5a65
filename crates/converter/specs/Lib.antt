pub mod Convert
pub mod Outcome
