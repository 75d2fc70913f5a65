pub mod Comparing
pub mod Spelled
