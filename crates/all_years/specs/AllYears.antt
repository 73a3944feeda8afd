-- What is known of a day in any of years 1 to 9999: docs/SCOPE.md [is-holiday], [trading-day]. Assumes nothing.
use Rattle.std.specs.Prelude.{ℕ, true, false, cond, ◌&&◌, Option, Some, None}
use Rattle.gregorian.specs.Calendar.{is_date, day_number}
use Rattle.markets.specs.Markets.{is_market, is_trading_day, is_holiday}
use Rattle.all_years.specs.declared.DayAnswer.{DayAnswer}

-- the day number of a date, where the code is a market's
unfoldable pub known_day : ℕ → ℕ → ℕ → ℕ → Option ℕ
known_day market year month day = cond (is_market market && is_date year month day) (Some (day_number year month day)) None

-- A known day, and whether it is a holiday and a trading day; of none every field is false.
abbrev pub day_answer : ℕ → Option ℕ → DayAnswer
day_answer market (Some n) = record { known = true; holiday = is_holiday market n; trades = is_trading_day market n }
day_answer market None = record { known = false; holiday = false; trades = false }
