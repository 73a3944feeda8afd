pub mod PrintLaws
pub mod FirstBytes
