-- Sessions and trading hours, as src/schedule.rs has them, on any numbers: docs/SCOPE.md [hours-record], [session-new] to
-- [is-open-at]. Assumes nothing.
use Rattle.std.specs.Prelude.{unwrap_or, is_some, ℕ, Bool, true, false, cond, ◌&&◌, ◌||◌, ltb, leb, eqb, Option, Some, None, Result, Ok, Err}
use Rattle.gregorian.specs.declared.Date.{Date}
use Rattle.error.specs.declared.CalendarError.TheVariants.{InvalidSession, InvalidTime}
use Rattle.schedule.specs.declared.Session.{Session}
use Rattle.schedule.specs.declared.TradingHours.{TradingHours}
use Rattle.error.specs.declared.CalendarError.{CalendarError}

abbrev pub session : ℕ → ℕ → Session
session start end = record { start = start; end = end }

-- no session, where an answer has none
abbrev pub no_session : Session
no_session = session 0 0

-- Session::new
unfoldable pub session_new : ℕ → ℕ → Result Session CalendarError
session_new start end = cond (eqb end start) (Err InvalidSession) (Ok (session start end))

-- Session::contains; the second case is a session over midnight, or equal ends
unfoldable pub contains : Session → ℕ → Bool
contains s time =
    cond (ltb s.start s.end)
    (leb s.start time && ltb time s.end)
    (leb s.start time || ltb time s.end)

-- `if let Some(ref s) = session { if s.contains(time) { .. } }`
abbrev pub may_contain : Option Session → ℕ → Bool
may_contain (Some s) time = contains s time
may_contain None time = false

-- `if let Some(early_close) = early_close { if time >= early_close { .. } } else { .. }`
abbrev pub is_reached : Option ℕ → ℕ → Bool
is_reached (Some close) time = leb close time
is_reached None time = true

-- the hours with this early close
abbrev pub set_early_close : TradingHours → Option ℕ → TradingHours
set_early_close hours time =
    record {
      date = hours.date;
      pre_market = hours.pre_market;
      regular = hours.regular;
      after_hours = hours.after_hours;
      early_close = time;
    }

-- TradingHours::new
abbrev pub hours_new : Date → Session → Option Session → Option Session → TradingHours
hours_new date regular pre after =
    record { date = date; pre_market = pre; regular = regular; after_hours = after; early_close = None }

-- TradingHours::with_early_close
unfoldable pub with_early_close : TradingHours → ℕ → Result TradingHours CalendarError
with_early_close hours time =
    cond (leb hours.regular.end time) (Err InvalidTime) (Ok (set_early_close hours (Some time)))

-- TradingHours::is_early_close
abbrev pub is_early_close : TradingHours → Bool
is_early_close hours = is_some hours.early_close

-- TradingHours::market_close
abbrev pub market_close : TradingHours → ℕ
market_close hours = unwrap_or hours.early_close hours.regular.end

-- the tests of is_open_at: the regular hours to the close, not by `contains`; the after-hours, from an early close on
abbrev pub is_regular_at : TradingHours → ℕ → Bool
is_regular_at hours time = leb hours.regular.start time && ltb time (market_close hours)

abbrev pub is_after_hours_at : TradingHours → ℕ → Bool
is_after_hours_at hours time = may_contain hours.after_hours time && is_reached hours.early_close time

-- TradingHours::is_open_at
unfoldable pub is_open_at : TradingHours → ℕ → Bool
is_open_at hours time = may_contain hours.pre_market time || is_regular_at hours time || is_after_hours_at hours time
