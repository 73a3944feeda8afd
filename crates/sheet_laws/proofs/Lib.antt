pub mod Splitting
pub mod SheetLaws
pub mod Example
