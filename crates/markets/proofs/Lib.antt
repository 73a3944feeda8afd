pub mod UsLaws
pub mod UkLaws
pub mod CanadaLaws
pub mod MarketLaws
pub mod MonthFirst
pub mod YearLaws
