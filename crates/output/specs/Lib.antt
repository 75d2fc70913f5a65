pub mod Logic
pub mod Wrote
