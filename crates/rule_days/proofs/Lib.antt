pub mod DayLaws
pub mod RuleMonths
