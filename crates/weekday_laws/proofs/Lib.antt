pub mod CountedWeekdays
