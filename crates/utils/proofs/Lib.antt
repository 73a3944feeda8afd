pub mod WeekdayLaws
pub mod EasterLaws
