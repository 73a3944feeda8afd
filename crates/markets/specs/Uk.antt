-- The holidays of LSE, as src/markets/uk/holidays.rs has them: docs/SCOPE.md [lse-holidays]. Assumes nothing.
use Rattle.std.specs.Prelude.{ℕ, ◌+◌, cond, List, [], eqb, pos}
use Rattle.gregorian.specs.Calendar.{monday, friday, saturday, sunday, day_number, weekday_of}
use Rattle.utils.specs.Weekday.{nth_weekday_of_month, minus}
use Rattle.utils.specs.Easter.{calculate_good_friday, calculate_easter_monday}
use Rattle.rule_days.specs.Days.{insert, insert_day, adjust_for_weekend}

-- add_boxing_day: the `match` on the weekday of Christmas Day
unfoldable pub add_boxing_day : List ℕ → ℕ → List ℕ
add_boxing_day holidays year =
    let christmas = day_number year 12 25 in
    let boxing = day_number year 12 26 in
    cond (eqb (weekday_of christmas) friday) (insert (insert holidays christmas) (boxing + 2))
    (cond (eqb (weekday_of christmas) saturday) (insert (insert holidays (day_number year 12 27)) (day_number year 12 28))
    (cond (eqb (weekday_of christmas) sunday) (insert (insert holidays boxing) (day_number year 12 27))
    (insert (insert holidays christmas) (adjust_for_weekend boxing))))

-- New Year's Day, on Monday if on a weekend; Good Friday; Easter Monday; Early May Bank Holiday; Spring Bank Holiday; Summer
-- Bank Holiday; Christmas Day and Boxing Day: 25 and 28 December if the 25th is a Friday, 27 and 28 if a Saturday, 26 and 27
-- if a Sunday, else 25 and 26.
unfoldable pub get_uk_holidays : ℕ → List ℕ
get_uk_holidays year =
    let holidays = insert [] (adjust_for_weekend (day_number year 1 1)) in  -- New Year's Day
    let holidays = insert_day holidays (calculate_good_friday year) in
    let holidays = insert_day holidays (calculate_easter_monday year) in
    let holidays = insert_day holidays (nth_weekday_of_month year 5 monday (pos 1)) in  -- Early May Bank Holiday
    let holidays = insert_day holidays (nth_weekday_of_month year 5 monday (minus 1)) in  -- Spring Bank Holiday
    let holidays = insert_day holidays (nth_weekday_of_month year 8 monday (minus 1)) in  -- Summer Bank Holiday
    let holidays = insert holidays (adjust_for_weekend (day_number year 12 25)) in  -- Christmas Day
    add_boxing_day holidays year
