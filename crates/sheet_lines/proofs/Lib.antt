pub mod LineLaws
pub mod SheetLength
