-- The calls of src/calendar.rs on numbers, and the open call: docs/SCOPE.md [trading-day], [is-holiday], [trading-hours],
-- [is-open]. Assumes nothing.
use Rattle.std.specs.Prelude.{ℕ, true, ◌&&◌, Result, Ok, Bool}
use Rattle.gregorian.specs.Calendar.{date}
use Rattle.markets.specs.Markets.{is_trading_day, is_holiday}
use Rattle.schedule.specs.Schedule.{is_open_at}
use Rattle.schedule.specs.MarketHours.{trading_hours}
use Rattle.checks.specs.Checks.{is_time, checked_day, supported_day}
use Rattle.error.specs.Errors.{result_and_then}
use Rattle.error.specs.declared.CalendarError.{CalendarError}
use Rattle.schedule.specs.declared.TradingHours.{TradingHours}

-- is_trading_day
abbrev pub is_trading_day_result : ℕ → ℕ → ℕ → ℕ → Result Bool CalendarError
is_trading_day_result market year month day =
    result_and_then (supported_day market year month day true) (λ n. Ok (is_trading_day market n))

-- is_holiday
abbrev pub is_holiday_result : ℕ → ℕ → ℕ → ℕ → Result Bool CalendarError
is_holiday_result market year month day =
    result_and_then (supported_day market year month day true) (λ n. Ok (is_holiday market n))

-- trading_hours
abbrev pub trading_hours_result : ℕ → ℕ → ℕ → ℕ → Result TradingHours CalendarError
trading_hours_result market year month day =
    result_and_then (checked_day market year month day) (λ n. Ok (trading_hours market (date year month day)))

-- the open call: the date trades, and its hours are open at the time
abbrev pub is_open_result : ℕ → ℕ → ℕ → ℕ → ℕ → Result Bool CalendarError
is_open_result market year month day time =
    result_and_then (supported_day market year month day (is_time time))
    (λ n. Ok (is_trading_day market n && is_open_at (trading_hours market (date year month day)) time))
