-- The Gregorian calendar from first principles, extended without end: docs/SCOPE.md [calendar], [date], [weekday-numbers].
-- Assumes nothing.
use Rattle.std.specs.Prelude.{ℕ, zero, suc, ◌+◌, ◌-◌, ◌%◌, Bool, cond, ◌&&◌, List, [], ◌∷◌, ltb, leb, eqb, get_or}
use Rattle.gregorian.specs.declared.Date.{Date}

-- A year is leap if 4 divides it; of the years that 100 divides, only if 400 does.
unfoldable pub leap : ℕ → Bool
leap y = cond (eqb (y % 100) 0) (eqb (y % 400) 0) (eqb (y % 4) 0)

-- the day that a leap year has more
unfoldable pub leap_day : ℕ → ℕ
leap_day y = cond (leap y) 1 0

unfoldable pub year_length : ℕ → ℕ
year_length y = 365 + leap_day y

-- The lengths of the months in a year with so many leap days; January is number 1, and there is no month 0.
abbrev pub month_lengths : ℕ → List ℕ
month_lengths leap_days = 0 ∷ 31 ∷ (28 + leap_days) ∷ 31 ∷ 30 ∷ 31 ∷ 30 ∷ 31 ∷ 31 ∷ 30 ∷ 31 ∷ 30 ∷ 31 ∷ []

-- The length of month m of year y; 0 where there is no such month.
unfoldable pub month_length : ℕ → ℕ → ℕ
month_length y m = get_or (month_lengths (leap_day y)) m 0

-- f 1 + f 2 + .. + f n
unfoldable pub total : (ℕ → ℕ) → ℕ → ℕ
total f zero = 0
total f (suc n) = total f n + f (suc n)

-- The day number: the days of the years before y, of the months before m, and d. 0001-01-01 is 1, as chrono's num_days_from_ce.
unfoldable pub day_number : ℕ → ℕ → ℕ → ℕ
day_number y m d = total year_length (y - 1) + (total (month_length y) (m - 1) + d)

-- the last year of the calls, and the day numbers of 0001-01-01 and of its last day
abbrev pub last_year : ℕ
last_year = 9999

abbrev pub first_day : ℕ
first_day = 1

abbrev pub last_day : ℕ
last_day = 3652059

-- [date]: what it takes for year, month and day to be a date of the calls
unfoldable pub is_date : ℕ → ℕ → ℕ → Bool
is_date y m d = leb 1 y && leb y last_year && leb 1 m && leb m 12 && leb 1 d && leb d (month_length y m)

abbrev pub date : ℕ → ℕ → ℕ → Date
date y m d = record { year = y; month = m; day = d }

-- the test and the day number of a date
abbrev pub is_date_of : Date → Bool
is_date_of t = is_date t.year t.month t.day

abbrev pub number : Date → ℕ
number t = day_number t.year t.month t.day

-- no date, where an answer has none
abbrev pub no_date : Date
no_date = date 0 0 0

-- The day after: the next day of the month, or else the first of the next month, or else the first of the next year.
unfoldable pub day_after : Date → Date
day_after t =
    cond (ltb t.day (month_length t.year t.month))
    (date t.year t.month (t.day + 1))
    (cond (ltb t.month 12) (date t.year (t.month + 1) 1) (date (t.year + 1) 1 1))

-- The date of a day number: day 1 is 0001-01-01, and each next number is the day after.
unfoldable pub date_of : ℕ → Date
date_of zero = date 0 12 31
date_of (suc n) = day_after (date_of n)

-- The day before: the day after it is the day itself (proofs/Laws.antt, `after-before`).
abbrev pub day_before : Date → Date
day_before t = date_of (number t - 1)

-- the numbers of weekdays, those that are asked for by name
abbrev pub monday : ℕ
monday = 0

abbrev pub tuesday : ℕ
tuesday = 1

abbrev pub thursday : ℕ
thursday = 3

abbrev pub friday : ℕ
friday = 4

abbrev pub saturday : ℕ
saturday = 5

abbrev pub sunday : ℕ
sunday = 6

-- the weekday of a day number: CalendarClaims.antt says why
unfoldable pub weekday_of : ℕ → ℕ
weekday_of n = (n + 6) % 7
