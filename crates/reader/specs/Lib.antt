pub mod Grammar
pub mod Outcome
pub mod Steps
