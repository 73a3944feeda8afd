pub mod Ranges
pub mod Traversals
pub mod Steps
pub mod Agreement
