pub mod ClosedRules
pub mod Examples
