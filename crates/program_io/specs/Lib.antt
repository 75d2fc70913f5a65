pub mod Shown
pub mod Framed
