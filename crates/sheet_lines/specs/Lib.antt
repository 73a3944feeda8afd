pub mod Sheet
pub mod Inner
