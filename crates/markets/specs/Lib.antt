pub mod Us
pub mod Uk
pub mod Canada
pub mod Markets
pub mod Years
pub mod Inner
