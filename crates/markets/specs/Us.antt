-- The holidays of NYSE and NASDAQ, as src/markets/us/holidays.rs has them: docs/SCOPE.md [us-holidays]. Assumes nothing.
use Rattle.std.specs.Prelude.{ℕ, ◌+◌, ◌-◌, List, [], leb, pos, Option}
use Rattle.gregorian.specs.Calendar.{monday, thursday, day_number}
use Rattle.utils.specs.Weekday.{nth_weekday_of_month, minus}
use Rattle.utils.specs.Easter.{calculate_good_friday}
use Rattle.rule_days.specs.Days.{insert, insert_if, insert_day, match_weekend, adjust_for_weekend}

-- the functions of these names in the Rust
abbrev pub new_years_day : ℕ → ℕ
new_years_day year = adjust_for_weekend (day_number year 1 1)

abbrev pub mlk_day : ℕ → Option ℕ
mlk_day year = nth_weekday_of_month year 1 monday (pos 3)

abbrev pub presidents_day : ℕ → Option ℕ
presidents_day year = nth_weekday_of_month year 2 monday (pos 3)

abbrev pub memorial_day : ℕ → Option ℕ
memorial_day year = nth_weekday_of_month year 5 monday (minus 1)

-- Saturday -1, Sunday +1
abbrev pub independence_day : ℕ → ℕ
independence_day year = let july4 = day_number year 7 4 in match_weekend july4 (july4 - 1) (july4 + 1)

abbrev pub labor_day : ℕ → Option ℕ
labor_day year = nth_weekday_of_month year 9 monday (pos 1)

abbrev pub thanksgiving_day : ℕ → Option ℕ
thanksgiving_day year = nth_weekday_of_month year 11 thursday (pos 4)

abbrev pub juneteenth : ℕ → ℕ
juneteenth year = adjust_for_weekend (day_number year 6 19)

abbrev pub christmas_day : ℕ → ℕ
christmas_day year = adjust_for_weekend (day_number year 12 25)

-- New Year's Day, Juneteenth (from 2021) and Christmas Day, on Monday if on a weekend; Independence Day, on Friday if on a
-- Saturday and on Monday if on a Sunday; Martin Luther King Jr. Day, Presidents' Day, Memorial Day, Labor Day, Thanksgiving
-- Day, Good Friday.
unfoldable pub get_us_holidays : ℕ → List ℕ
get_us_holidays year =
    let holidays = insert [] (new_years_day year) in
    let holidays = insert holidays (independence_day year) in
    let holidays = insert holidays (christmas_day year) in
    let holidays = insert_if holidays (leb 2021 year) (juneteenth year) in
    let holidays = insert_day holidays (mlk_day year) in
    let holidays = insert_day holidays (presidents_day year) in
    let holidays = insert_day holidays (memorial_day year) in
    let holidays = insert_day holidays (labor_day year) in
    let holidays = insert_day holidays (thanksgiving_day year) in
    insert_day holidays (calculate_good_friday year)
