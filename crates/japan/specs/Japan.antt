-- The holidays of TSE, as src/markets/japan/holidays.rs has them: docs/SCOPE.md [tse-holidays]. Assumes nothing.
use Rattle.std.specs.Prelude.{ℕ, zero, suc, ◌+◌, ◌-◌, cond, ◌&&◌, List, [], ◌∷◌, leb, eqb, get_or, pos, Option, Some, None}
use Rattle.gregorian.specs.Calendar.{monday, tuesday, thursday, friday, sunday, day_number, weekday_of}
use Rattle.utils.specs.Weekday.{nth_weekday_of_month}
use Rattle.rule_days.specs.Days.{contains, insert, insert_if, insert_day}

-- The first day from `substitute` on that is no holiday yet, of as many as are `left`; None if there is none. The Rust's loop,
-- `while holidays.contains(&substitute) && attempts < 7 { substitute += 1; attempts += 1 }`, with 7 - attempts as `left`, and what
-- follows it, `if attempts < 7 { holidays.insert(substitute) }`.
unfoldable pub substitute_day : List ℕ → ℕ → ℕ → Option ℕ
substitute_day holidays zero substitute = None
substitute_day holidays (suc left) substitute =
    let later = substitute_day holidays left (substitute + 1) in
    cond (contains holidays substitute) later (Some substitute)

-- add_with_substitute: the date and, if it is a Sunday, its substitute
unfoldable pub add_with_substitute : List ℕ → ℕ → List ℕ
add_with_substitute holidays date =
    let holidays = insert holidays date in
    cond (eqb (weekday_of date) sunday) (insert_day holidays (substitute_day holidays 7 (date + 1))) holidays

-- add_with_substitute where there is a date
unfoldable pub add_day_with_substitute : List ℕ → Option ℕ → List ℕ
add_day_with_substitute holidays (Some date) = add_with_substitute holidays date
add_day_with_substitute holidays None = holidays

-- [tse-equinox]: the days of March and of September, from 2020 to 2030
abbrev pub vernal_days : List ℕ
vernal_days = 20 ∷ 20 ∷ 21 ∷ 21 ∷ 20 ∷ 20 ∷ 20 ∷ 21 ∷ 20 ∷ 20 ∷ 20 ∷ []

abbrev pub autumnal_days : List ℕ
autumnal_days = 22 ∷ 23 ∷ 23 ∷ 23 ∷ 22 ∷ 23 ∷ 23 ∷ 23 ∷ 22 ∷ 23 ∷ 23 ∷ []

-- calculate_vernal_equinox, calculate_autumnal_equinox: the day of the table in that month; None in other years
unfoldable pub equinox : List ℕ → ℕ → ℕ → Option ℕ
equinox days year month =
    cond (leb 2020 year && leb year 2030) (Some (day_number year month (get_or days (year - 2020) 0))) None

abbrev pub calculate_vernal_equinox : ℕ → Option ℕ
calculate_vernal_equinox year = equinox vernal_days year 3

abbrev pub calculate_autumnal_equinox : ℕ → Option ℕ
calculate_autumnal_equinox year = equinox autumnal_days year 9

-- apply_golden_week_rules: 4 May, and 2 or 6 May by the weekdays of 3 to 5 May
unfoldable pub apply_golden_week_rules : ℕ → List ℕ → List ℕ
apply_golden_week_rules year holidays =
    let may3 = day_number year 5 3 in
    let may4 = day_number year 5 4 in
    let may5 = day_number year 5 5 in
    let holidays = insert holidays may4 in
    let holidays = insert_if holidays (eqb (weekday_of may3) tuesday) (day_number year 5 2) in
    let holidays = insert_if holidays (eqb (weekday_of may5) thursday) (day_number year 5 6) in
    let holidays = insert_if holidays (eqb (weekday_of may3) friday && eqb (weekday_of may5) sunday) (day_number year 5 6) in
    insert_if holidays (eqb (weekday_of may4) sunday) (day_number year 5 6)

-- With a substitute if on a Sunday: New Year holidays (1 to 3 January), National Foundation Day, Emperor's Birthday, Vernal
-- Equinox, Showa Day, 3 and 5 May, Mountain Day, Autumnal Equinox, Culture Day, Labour Thanksgiving Day. Without: Coming of
-- Age Day, Greenery Day (4 May) and the bridge days of Golden Week, Marine Day, Respect for Aged Day, Health and Sports Day,
-- 31 December.
unfoldable pub get_japan_holidays : ℕ → List ℕ
get_japan_holidays year =
    let holidays = add_with_substitute [] (day_number year 1 1) in  -- New Year holidays, 1 to 3 January
    let holidays = add_with_substitute holidays (day_number year 1 2) in
    let holidays = add_with_substitute holidays (day_number year 1 3) in
    let holidays = insert_day holidays (nth_weekday_of_month year 1 monday (pos 2)) in  -- Coming of Age Day
    let holidays = add_with_substitute holidays (day_number year 2 11) in  -- National Foundation Day
    let holidays = add_with_substitute holidays (day_number year 2 23) in  -- Emperor's Birthday
    let holidays = add_day_with_substitute holidays (calculate_vernal_equinox year) in
    let holidays = add_with_substitute holidays (day_number year 4 29) in  -- Showa Day
    let holidays = add_with_substitute holidays (day_number year 5 3) in  -- Golden Week
    let holidays = add_with_substitute holidays (day_number year 5 5) in
    let holidays = apply_golden_week_rules year holidays in
    let holidays = insert_day holidays (nth_weekday_of_month year 7 monday (pos 3)) in  -- Marine Day
    let holidays = add_with_substitute holidays (day_number year 8 11) in  -- Mountain Day
    let holidays = insert_day holidays (nth_weekday_of_month year 9 monday (pos 3)) in  -- Respect for Aged Day
    let holidays = add_day_with_substitute holidays (calculate_autumnal_equinox year) in
    let holidays = insert_day holidays (nth_weekday_of_month year 10 monday (pos 2)) in  -- Health and Sports Day
    let holidays = add_with_substitute holidays (day_number year 11 3) in  -- Culture Day
    let holidays = add_with_substitute holidays (day_number year 11 23) in  -- Labour Thanksgiving Day
    insert holidays (day_number year 12 31)  -- Market closes
