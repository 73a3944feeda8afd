-- What day numbers and weekdays are, and the claims that `day_number`, `date_of` and `weekday_of` give them: docs/SCOPE.md [authority],
-- [calendar], [weekday-numbers]. Assumes nothing.
use Rattle.std.specs.Prelude.{ℕ, ◌+◌, ◌≤◌, ◌≡◌, true, cond, eqb}
use Rattle.gregorian.specs.declared.Date.{Date}
use Rattle.gregorian.specs.Calendar.{day_number, last_year, first_day, last_day, date, is_date_of, number, day_after, date_of, monday, weekday_of}

-- the claim: the dates of years 1 to 9999 have the numbers from `first_day` to `last_day`, the day after one more, and `date_of` goes back
pub record DatesAreNumbered : Type 0 where
  pub first : number (date 1 1 1) ≡ first_day
  pub last : number (date last_year 12 31) ≡ last_day
  pub in-range : (t : Date) → is_date_of t ≡ true → (first_day ≤ number t) × (number t ≤ last_day)
  pub next : (t : Date) → is_date_of t ≡ true → number (day_after t) ≡ number t + 1
  pub date-of : (t : Date) → is_date_of t ≡ true → date_of (number t) ≡ t
  pub number_of : (n : ℕ) → first_day ≤ n → n ≤ last_day → (is_date_of (date_of n) ≡ true) × (number (date_of n) ≡ n)

-- the weekday after w: 0 Monday to 6 Sunday, then Monday again
unfoldable pub next_weekday : ℕ → ℕ
next_weekday w = cond (eqb w 6) 0 (w + 1)

-- what it is to give each day number its weekday: 1 January 2001 is a Monday, and each next day has the next weekday
pub record Weekdays (f : ℕ → ℕ) : Type 0 where
  pub on-2001-01-01 : f (day_number 2001 1 1) ≡ monday
  pub next : (n : ℕ) → f (n + 1) ≡ next_weekday (f n)

-- the claim: `weekday_of` gives each day number its weekday, and no other function does
pub record OnlyWeekdays : Type 0 where
  pub weekdays : Weekdays weekday_of
  pub no_other : (f : ℕ → ℕ) → Weekdays f → (n : ℕ) → f n ≡ weekday_of n
