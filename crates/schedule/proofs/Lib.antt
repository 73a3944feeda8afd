pub mod ScheduleLaws
pub mod MarketHoursLaws
