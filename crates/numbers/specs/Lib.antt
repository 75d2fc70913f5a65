pub mod Decimal
pub mod Numeral
pub mod NumeralSteps
pub mod Padded
pub mod Timestamp
pub mod TimestampRead
pub mod TimestampSteps
