pub mod Table
pub mod LaneLaws
pub mod DigitArith
pub mod SextetLaws
