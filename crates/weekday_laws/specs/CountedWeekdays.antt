-- One claim about the calls for the nth and the last weekday of a month: they answer what counting day by day finds, for any weekday,
-- month and signed n: docs/SCOPE.md [weekday-laws]. The answers are the structs that the exported calls return, by the definitions that
-- their contracts cite. Assumes nothing.
use Rattle.std.specs.Prelude.{ℕ, suc, ◌≤◌, ◌≡◌, true, ◌⊎◌, eqb, length, ℤ, pos, negsuc}
use Rattle.gregorian.specs.declared.Date.{Date}
use Rattle.gregorian.specs.Calendar.{month_length, day_number, last_year, is_date, is_date_of, number, weekday_of}
use Rattle.utils.specs.Weekday.{last_weekday_of_month, nth_weekday_of_month, minus}
use Rattle.ranges.specs.Ranges.{days, filter}
use Rattle.answers.specs.declared.OptionalDate.{OptionalDate}
use Rattle.answers.specs.Answers.{optional_date}
use Rattle.answers.specs.Expected.{found_date, no_date_found}

-- what tc_nth_weekday_of_month and tc_last_weekday_of_month return
abbrev pub nth_weekday_call : ℕ → ℕ → ℕ → ℤ → OptionalDate
nth_weekday_call y m w n = optional_date (nth_weekday_of_month y m w n)

abbrev pub last_weekday_call : ℕ → ℕ → ℕ → OptionalDate
last_weekday_call y m w = optional_date (nth_weekday_of_month y m w (minus 1))

-- how many of the days from a to b, both included, are a w
abbrev pub count_weekdays : ℕ → ℕ → ℕ → ℕ
count_weekdays w a b = length (filter (λ n. eqb (weekday_of n) w) (days a b))

-- Counting to day t gives n: from the first day of the month to it n days are a w; for n below 0, from it to the month's last day -n are,
-- where negsuc k is -(k + 1).
abbrev pub CountsTo : ℕ → ℕ → ℕ → ℤ → ℕ → Type 0
CountsTo y m w (pos n) t = count_weekdays w (day_number y m 1) t ≡ n
CountsTo y m w (negsuc k) t = count_weekdays w t (day_number y m (month_length y m)) ≡ suc k

-- a date that is the nth w of the month, in a month of that number in whatever year
pub record IsNthWeekday (y m w : ℕ) (n : ℤ) (t : Date) : Type 0 where
  pub is-date : is_date_of t ≡ true
  pub weekday : weekday_of (number t) ≡ w
  pub month : t.month ≡ m
  pub counted : CountsTo y m w n (number t)

-- the n that can have an answer in the month: up to 255 either way and not 0; in December 9999 none below 0
abbrev pub WithinLimits : ℕ → ℕ → ℤ → Type 0
WithinLimits y m (pos n) = (1 ≤ n) × (n ≤ 255)
WithinLimits y m (negsuc k) = (suc k ≤ 255) × (y ≡ last_year → m ≡ 12 → ⊥)

pub record NthWeekdayLaws (y m w : ℕ) (n : ℤ) : Type 0 where
  -- The call returns a date or none.
  pub returned : ((t : Date) × (nth_weekday_call y m w n ≡ found_date t)) ⊎ (nth_weekday_call y m w n ≡ no_date_found)
  -- A date that it returns is the nth w of the month, which is one of years 1 to 9999, for an n within its limits.
  pub right : (t : Date) → nth_weekday_call y m w n ≡ found_date t → (is_date y m 1 ≡ true) × WithinLimits y m n × IsNthWeekday y m w n t
  -- Wherever there is such a date, it is returned; so there is no other.
  pub every : (t : Date) → is_date y m 1 ≡ true → WithinLimits y m n → IsNthWeekday y m w n t → nth_weekday_call y m w n ≡ found_date t
  -- The last w, by its contract n = -1, is that of the Rust's last_weekday_of_month.
  pub last : last_weekday_call y m w ≡ optional_date (last_weekday_of_month y m w)

-- [weekday-laws], the claim: for all numbers.
abbrev pub AllWeekdayLaws : Type 0
AllWeekdayLaws = (y m w : ℕ) (n : ℤ) → NthWeekdayLaws y m w n
