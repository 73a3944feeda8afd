-- Inner: no exported contract and no claim rests on these. What functions promise of the days that they answer. Assumes nothing.
use Rattle.std.specs.Prelude.{ℕ, ◌≤◌, ◌≡◌, true, Option, Some, None}
use Rattle.gregorian.specs.Calendar.{last_day, is_date, day_number}
use Rattle.utils.specs.declared.NthWeekday.{NthWeekday}

-- none, or a day of years 1 to 9999
abbrev pub InYears : Option ℕ → Type 0
InYears (Some n) = (1 ≤ n) × (n ≤ last_day)
InYears None = Unit {0}

-- the day that an answer is, asked about month m of year y
abbrev pub day_of_nth : ℕ → ℕ → Option NthWeekday → Option ℕ
day_of_nth y m (Some (NthWeekday.InMonth d)) = Some (day_number y m d)
day_of_nth y m (Some (NthWeekday.DayNumber n)) = Some n
day_of_nth y m None = None

-- such an answer is none, or a day of years 1 to 9999
abbrev pub NthInYears : ℕ → ℕ → Option NthWeekday → Type 0
NthInYears y m (Some (NthWeekday.InMonth d)) = is_date y m d ≡ true
NthInYears y m (Some (NthWeekday.DayNumber n)) = InYears (Some n)
NthInYears y m None = Unit {0}
