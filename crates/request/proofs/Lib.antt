pub mod RequestLaws
pub mod Form
