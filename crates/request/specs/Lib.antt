pub mod Text
pub mod Request
pub mod Form
