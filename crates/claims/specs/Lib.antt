pub mod Back
pub mod Demand3
pub mod Writing
pub mod Examples
pub mod Former
pub mod InRange
pub mod Reserved
pub mod Lengths
