-- The hours of each market, as the mod.rs of src/markets have them, with the seconds of src/constants.rs: docs/SCOPE.md
-- [hours], [trading-hours], [early-close]. Assumes nothing.
use Rattle.std.specs.Prelude.{ℕ, ◌+◌, ◌≡◌, Bool, cond, not, ◌&&◌, ◌||◌, List, [], ◌∷◌, eqb, length, get_or, Option, Some, None, option_map}
use Rattle.gregorian.specs.declared.Date.{Date}
use Rattle.gregorian.specs.Calendar.{number}
use Rattle.rule_days.specs.Days.{is_day}
use Rattle.markets.specs.Markets.{holidays_by_code, is_weekend}
use Rattle.markets.specs.Us.{thanksgiving_day}
use Rattle.schedule.specs.declared.TradingHours.{TradingHours}
use Rattle.schedule.specs.Schedule.{session, set_early_close, hours_new}

-- the day after Thanksgiving
abbrev pub black_friday : ℕ → Option ℕ
black_friday year = option_map (λ n. n + 1) (thanksgiving_day year)

-- USMarket::is_early_close_day: the day after Thanksgiving; 3 July if the 4th is a weekday; 24 December on a weekday
unfoldable pub is_early_close_day : Date → Bool
is_early_close_day date =
    let n = number date in
    is_day (black_friday date.year) n
    || eqb date.month 7 && eqb date.day 3 && not (is_weekend (n + 1))
    || eqb date.month 12 && eqb date.day 24 && not (is_weekend n)

-- 9:30 to 16:00, pre-market from 4:00, after-hours from the time given to 20:00
abbrev pub us_hours : ℕ → Date → TradingHours
us_hours after_hours date =
    hours_new date (session 34200 57600) (Some (session 14400 34200)) (Some (session after_hours 72000))

-- after-hours from 16:00, the regular end
abbrev pub us_regular_hours : Date → TradingHours
us_regular_hours = us_hours 57600

-- the regular hours, with after-hours from 13:00 and an early close then
abbrev pub us_early_hours : Date → TradingHours
us_early_hours date = set_early_close (us_hours 46800 date) (Some 46800)

-- USMarket::trading_hours
unfoldable pub us_trading_hours : Date → TradingHours
us_trading_hours date = cond (is_early_close_day date) (us_early_hours date) (us_regular_hours date)

-- no session before or after, no early close
abbrev pub regular_hours : ℕ → ℕ → Date → TradingHours
regular_hours start end date = hours_new date (session start end) None None

-- LSEMarket::trading_hours: 8:00 to 16:30
abbrev pub lse_trading_hours : Date → TradingHours
lse_trading_hours = regular_hours 28800 59400

-- TSEMarket::trading_hours: 9:00 to 15:00
abbrev pub tse_trading_hours : Date → TradingHours
tse_trading_hours = regular_hours 32400 54000

-- TSXMarket::trading_hours: 9:30 to 16:00
abbrev pub tsx_trading_hours : Date → TradingHours
tsx_trading_hours = regular_hours 34200 57600

-- in the order of the codes, NYSE, NASDAQ, LSE, TSE, TSX
abbrev pub hours_by_code : List (Date → TradingHours)
hours_by_code = us_trading_hours ∷ us_trading_hours ∷ lse_trading_hours ∷ tse_trading_hours ∷ tsx_trading_hours ∷ []

-- There are hours for each market.
abbrev pub HoursForEachMarket : Type 0
HoursForEachMarket = length hours_by_code ≡ length holidays_by_code

-- TradingCalendar::trading_hours; a code that is no market's has the hours 0 to 0, which are never open
unfoldable pub trading_hours : ℕ → Date → TradingHours
trading_hours market = get_or hours_by_code market (regular_hours 0 0)
