pub mod Tests
pub mod Total
pub mod YearDays
pub mod Laws
pub mod Weekdays
pub mod Formulas
pub mod DaySteps
