pub mod Layouts
pub mod Texts
pub mod Leaves
pub mod Notes
pub mod Items
pub mod NoLineFeed
pub mod Indented
pub mod Verdicts
