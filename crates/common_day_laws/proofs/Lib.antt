pub mod CommonDayLaws
