pub mod Days
pub mod Inner
