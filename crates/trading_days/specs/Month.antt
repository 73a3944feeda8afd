-- The trading days of a month: docs/SCOPE.md [month-list]. Assumes nothing.
use Rattle.std.specs.Prelude.{ℕ, List}
use Rattle.gregorian.specs.Calendar.{month_length, day_number}
use Rattle.markets.specs.Markets.{is_trading_day}
use Rattle.ranges.specs.Ranges.{days, filter}

-- [month-list]: those days of the month, by their numbers in it, that trade
unfoldable pub month_list : ℕ → ℕ → ℕ → List ℕ
month_list market year month = filter (λ day. is_trading_day market (day_number year month day)) (days 1 (month_length year month))
