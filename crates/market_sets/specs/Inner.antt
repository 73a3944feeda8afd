-- Inner: no exported contract and no claim rests on these. Which of several days the code finds. Assumes nothing.
use Rattle.std.specs.Prelude.{ℕ, Option, Result}
use Rattle.gregorian.specs.declared.Date.{Date}
use Rattle.ranges.specs.Ranges.{days, find}
use Rattle.error.specs.Errors.{result_and_then}
use Rattle.market_sets.specs.MarketSets.{is_common_trading_day, checked_set_range, found_on}
use Rattle.error.specs.declared.CalendarError.{CalendarError}

-- the first day of the range on which every market of the set trades
abbrev pub first_common_day_result : ℕ → Date → Date → Result (Option Date) CalendarError
first_common_day_result markets start end =
    result_and_then (checked_set_range markets start end) (λ (a, b). found_on (find (is_common_trading_day markets) (days a b)))
