pub mod Lanes
pub mod DigitLanes
pub mod Sextets
