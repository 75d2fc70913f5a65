pub mod CutLaws
pub mod BookLaws
pub mod DamagedLines
pub mod Demand
pub mod LineLaws
pub mod RunLaws
