-- The calls of src/schedule.rs on any numbers: docs/SCOPE.md [session-new] to [is-open-at], [errors]. Assumes nothing.
use Rattle.std.specs.Prelude.{ℕ, Bool, true, cond, not, ◌&&◌, Option, Some, None, Result, Ok, Err}
use Rattle.gregorian.specs.declared.Date.{Date}
use Rattle.gregorian.specs.Calendar.{is_date_of}
use Rattle.error.specs.Errors.{result_and_then}
use Rattle.error.specs.declared.CalendarError.{CalendarError}
use Rattle.error.specs.declared.CalendarError.TheVariants.{InvalidDate, TimeOutOfRange}
use Rattle.schedule.specs.declared.Session.{Session}
use Rattle.schedule.specs.declared.TradingHours.{TradingHours}
use Rattle.checks.specs.Checks.{is_time}
use Rattle.schedule.specs.Schedule.{session, session_new, contains, hours_new, with_early_close, is_early_close, market_close, is_open_at}

-- [time]: the times of a session are in range, also of one that [session-new] refuses
abbrev pub session_in_range : Session → Bool
session_in_range s = is_time s.start && is_time s.end

-- an absent part has no time
abbrev pub optional_session_in_range : Option Session → Bool
optional_session_in_range (Some s) = session_in_range s
optional_session_in_range None = true

abbrev pub optional_time_in_range : Option ℕ → Bool
optional_time_in_range (Some time) = is_time time
optional_time_in_range None = true

-- each time that is present is in range
unfoldable pub hours_in_range : TradingHours → Bool
hours_in_range hours =
    optional_session_in_range hours.pre_market
    && session_in_range hours.regular
    && optional_session_in_range hours.after_hours
    && optional_time_in_range hours.early_close

-- Errors 5 and 7 of an hours record, in the order of [errors]; `time_in_range` is whether the time beside it is one, and true for a call
-- that takes none.
unfoldable pub checked_hours : TradingHours → Bool → Result TradingHours CalendarError
checked_hours hours time_in_range =
    cond (not (is_date_of hours.date)) (Err InvalidDate)
    (cond (not (hours_in_range hours && time_in_range)) (Err TimeOutOfRange)
    (Ok hours))

-- Session::new
unfoldable pub session_new_result : ℕ → ℕ → Result Session CalendarError
session_new_result start end = cond (not (session_in_range (session start end))) (Err TimeOutOfRange) (session_new start end)

-- Session::contains
unfoldable pub session_contains_result : Session → ℕ → Result Bool CalendarError
session_contains_result s time =
    cond (not (session_in_range s && is_time time)) (Err TimeOutOfRange) (Ok (contains s time))

-- TradingHours::new
abbrev pub trading_hours_new_result : Date → Session → Option Session → Option Session → Result TradingHours CalendarError
trading_hours_new_result date regular pre after = checked_hours (hours_new date regular pre after) true

-- TradingHours::with_early_close
abbrev pub with_early_close_result : TradingHours → ℕ → Result TradingHours CalendarError
with_early_close_result hours time = result_and_then (checked_hours hours (is_time time)) (λ h. with_early_close h time)

-- TradingHours::is_early_close
abbrev pub is_early_close_result : TradingHours → Result Bool CalendarError
is_early_close_result hours = result_and_then (checked_hours hours true) (λ h. Ok (is_early_close h))

-- TradingHours::market_close
abbrev pub market_close_result : TradingHours → Result ℕ CalendarError
market_close_result hours = result_and_then (checked_hours hours true) (λ h. Ok (market_close h))

-- TradingHours::is_open_at
abbrev pub is_open_at_result : TradingHours → ℕ → Result Bool CalendarError
is_open_at_result hours time =
    result_and_then (checked_hours hours (is_time time)) (λ h. Ok (is_open_at h time))
