pub mod DigitLaws
pub mod DecimalLaws
