pub mod Weekday
pub mod Easter
pub mod Inner
