pub mod ClosedForms
pub mod YearFlags
pub mod MarketAgreement
