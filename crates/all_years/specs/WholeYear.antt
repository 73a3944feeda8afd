-- The claim of docs/SCOPE.md [month-first], on the struct that `all_years_day` returns. Assumes nothing.
use Rattle.std.specs.Prelude.{ℕ, ◌≡◌, true}
use Rattle.gregorian.specs.Calendar.{is_date, day_number}
use Rattle.rule_days.specs.Days.{contains}
use Rattle.markets.specs.Markets.{holidays}
use Rattle.all_years.specs.AllYears.{known_day, day_answer}

-- the claim: for every code and every date of years 1 to 9999, whether the day is a holiday is answered as membership in the whole
-- year's holidays
abbrev pub WholeYear : Type 0
WholeYear =
    (market y m d : ℕ) → is_date y m d ≡ true
    → (day_answer market (known_day market y m d)).holiday ≡ contains (holidays market y) (day_number y m d)
