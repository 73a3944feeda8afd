-- The holidays of TSX, as src/markets/canada/holidays.rs has them: docs/SCOPE.md [tsx-holidays]. Assumes nothing.
use Rattle.std.specs.Prelude.{ℕ, ◌+◌, cond, ◌&&◌, List, [], leb, eqb, pos, Option, None}
use Rattle.gregorian.specs.Calendar.{monday, friday, saturday, sunday, day_number, weekday_of}
use Rattle.utils.specs.Weekday.{nth_weekday_of_month, last_up_to}
use Rattle.utils.specs.Easter.{calculate_good_friday}
use Rattle.rule_days.specs.Days.{insert, insert_day, adjust_for_weekend}

-- `if year >= 2008 { .. }`
abbrev pub family_day : ℕ → Option ℕ
family_day year = cond (leb 2008 year) (nth_weekday_of_month year 2 monday (pos 3)) None

-- victoria_day: from 24 May, which every year has, back to a Monday
abbrev pub victoria_day : ℕ → ℕ
victoria_day year = last_up_to monday (day_number year 5 24)

-- The `match` on the weekdays of Christmas Day and Boxing Day: two days later if Boxing Day is on a weekend. (_, Sat) and (_, Sun) never
-- apply: the first two cases have every such year.
unfoldable pub boxing_day : ℕ → ℕ
boxing_day year =
    let christmas = day_number year 12 25 in
    let boxing = day_number year 12 26 in
    cond (eqb (weekday_of christmas) friday && eqb (weekday_of boxing) saturday) (boxing + 2)  -- (Fri, Sat)
    (cond (eqb (weekday_of christmas) saturday && eqb (weekday_of boxing) sunday) (boxing + 2)  -- (Sat, Sun)
    (cond (eqb (weekday_of boxing) saturday) (boxing + 2)  -- (_, Sat)
    (cond (eqb (weekday_of boxing) sunday) (boxing + 1) boxing)))  -- (_, Sun); and the rest, (Sun, Mon) too

-- New Year's Day, Canada Day and Christmas Day, on Monday if on a weekend; Family Day (from 2008); Good Friday; Victoria Day;
-- Labour Day; Thanksgiving; Boxing Day, two days later if on a weekend: where Christmas Day is a Sunday, both are on the 26th. No Civic
-- Holiday.
unfoldable pub get_canada_holidays : ℕ → List ℕ
get_canada_holidays year =
    let holidays = insert [] (adjust_for_weekend (day_number year 1 1)) in  -- New Year's Day
    let holidays = insert_day holidays (family_day year) in
    let holidays = insert_day holidays (calculate_good_friday year) in
    let holidays = insert holidays (victoria_day year) in
    let holidays = insert holidays (adjust_for_weekend (day_number year 7 1)) in  -- Canada Day
    let holidays = insert_day holidays (nth_weekday_of_month year 9 monday (pos 1)) in  -- Labour Day
    let holidays = insert_day holidays (nth_weekday_of_month year 10 monday (pos 2)) in  -- Thanksgiving
    let holidays = insert holidays (adjust_for_weekend (day_number year 12 25)) in  -- Christmas Day
    insert holidays (boxing_day year)
