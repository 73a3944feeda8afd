pub mod MonthDayLaws
