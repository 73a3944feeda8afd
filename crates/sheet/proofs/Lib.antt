pub mod SheetCallLaws
