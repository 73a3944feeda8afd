pub mod Records
pub mod Answers
pub mod SliceCall
pub mod CommonDayCall
pub mod Expected
