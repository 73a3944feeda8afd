pub mod Japan
pub mod Inner
