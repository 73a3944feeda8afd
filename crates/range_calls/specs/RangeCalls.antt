-- The calls of src/calendar.rs about ranges of days, on numbers: docs/SCOPE.md [next], [previous], [month-list], [count], [errors].
-- Assumes nothing.
use Rattle.std.specs.Prelude.{ℕ, ◌-◌, cond, not, ◌||◌, List, ltb, length, Option, Some, None, Result, Ok, Err}
use Rattle.gregorian.specs.Calendar.{date, date_of}
use Rattle.markets.specs.Markets.{is_market, is_trading_day}
use Rattle.markets.specs.Years.{is_supported, first_day_of, last_day_of}
use Rattle.ranges.specs.Ranges.{next_trading_day, previous_trading_day, count_trading_days}
use Rattle.trading_days.specs.Month.{month_list}
use Rattle.error.specs.declared.CalendarError.TheVariants.{UnknownMarket, NoTradingDayFound}
use Rattle.range_calls.specs.declared.TradingDay.{TradingDay}
use Rattle.checks.specs.Checks.{checked_day, checked_month, checked_range, checked_room, final_buffer}
use Rattle.error.specs.Errors.{result_and_then}
use Rattle.error.specs.declared.CalendarError.{CalendarError}

-- ---- next and previous

-- [distance]: the difference of two day numbers
unfoldable pub distance_of : ℕ → ℕ → ℕ
distance_of n m = cond (ltb n m) (m - n) (n - m)

-- The answer m to a call on day n of that year, with its distance and [outside]: the mark is set if either is outside the supported years.
unfoldable pub trading_day : ℕ → ℕ → ℕ → TradingDay
trading_day year n m =
    record { date = date_of m; distance = distance_of n m; outside = not (is_supported year) || not (is_supported (date_of m).year) }

-- error 6 where there is none
unfoldable pub trading_day_result : ℕ → ℕ → Option ℕ → Result TradingDay CalendarError
trading_day_result year n (Some m) = Ok (trading_day year n m)
trading_day_result year n None = Err NoTradingDayFound

-- errors 8 and 5, and then the neighbour of the day
abbrev pub neighbour_result : (ℕ → Option ℕ) → ℕ → ℕ → ℕ → ℕ → Result TradingDay CalendarError
neighbour_result neighbour market year month day =
    result_and_then (checked_day market year month day) (λ n. trading_day_result year n (neighbour n))

-- next_trading_day
abbrev pub next_trading_day_result : ℕ → ℕ → ℕ → ℕ → Result TradingDay CalendarError
next_trading_day_result market = neighbour_result (next_trading_day (is_trading_day market) (last_day_of market)) market

-- previous_trading_day
abbrev pub previous_trading_day_result : ℕ → ℕ → ℕ → ℕ → Result TradingDay CalendarError
previous_trading_day_result market = neighbour_result (previous_trading_day (is_trading_day market) (first_day_of market)) market

-- ---- the list of a month

-- trading_days_in_month: errors 8, 1, 2 and 9
unfoldable pub trading_days_in_month_result : ℕ → ℕ → ℕ → List ℕ → Result ℕ CalendarError
trading_days_in_month_result market year month buffer =
    result_and_then (checked_month market year month) (λ _. checked_room (length (month_list market year month)) (length buffer))

abbrev pub trading_days_in_month_buffer : ℕ → ℕ → ℕ → List ℕ → List ℕ
trading_days_in_month_buffer market year month buffer =
    final_buffer (trading_days_in_month_result market year month buffer) (month_list market year month) buffer

-- ---- the count

-- count_trading_days: error 8, then those of `checked_range`, 5, 5 and 1, the last with the start
abbrev pub count_trading_days_result : ℕ → ℕ → ℕ → ℕ → ℕ → ℕ → ℕ → Result ℕ CalendarError
count_trading_days_result market start_year start_month start_day end_year end_month end_day =
    cond (not (is_market market)) (Err UnknownMarket)
    (result_and_then (checked_range (date start_year start_month start_day) (date end_year end_month end_day))
    (λ (start, end). Ok (count_trading_days (is_trading_day market) start end)))
