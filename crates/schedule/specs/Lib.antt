pub mod Schedule
pub mod MarketHours
