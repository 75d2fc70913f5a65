pub mod Whole
pub mod Value
pub mod Float
