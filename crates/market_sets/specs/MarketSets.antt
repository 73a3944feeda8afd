-- Sets of markets, and the days on which all markets of a set trade: docs/SCOPE.md [market-set], [common-day]. A day is its day number.
-- Assumes nothing.
use Rattle.std.specs.Prelude.{option_map, ℕ, zero, suc, ◌/◌, ◌%◌, ◌^◌, Bool, true, cond, not, ◌&&◌, ◌||◌, ltb, leb, eqb, length, Option, Result, Ok, Err}
use Rattle.gregorian.specs.declared.Date.{Date}
use Rattle.gregorian.specs.Calendar.{date_of}
use Rattle.markets.specs.Markets.{holidays_by_code, is_trading_day}
use Rattle.error.specs.declared.CalendarError.TheVariants.{InvalidMarketSet}
use Rattle.checks.specs.Checks.{checked_range}
use Rattle.error.specs.declared.CalendarError.{CalendarError}

-- ---- the set

-- [market-set]: a set is a byte, and a market is in it if the bit of its code is 1
unfoldable pub has_market : ℕ → ℕ → Bool
has_market markets market = eqb (markets / 2 ^ market % 2) 1

-- [market-set]: a byte that is a set: it is not empty, and has no bit above that of the last market
unfoldable pub is_market_set : ℕ → Bool
is_market_set markets = leb 1 markets && ltb markets (2 ^ length holidays_by_code)

-- ---- its days

-- the test holds of every number below k
unfoldable pub all_below : ℕ → (ℕ → Bool) → Bool
all_below zero test = true
all_below (suc k) test = all_below k test && test k

-- the market is not in the set, or it trades on day n
abbrev pub trades_if_member : ℕ → ℕ → ℕ → Bool
trades_if_member markets n market = not (has_market markets market) || is_trading_day market n

-- [common-day]: every market of the set trades on day n
unfoldable pub is_common_trading_day : ℕ → ℕ → Bool
is_common_trading_day markets n = all_below (length holidays_by_code) (trades_if_member markets n)

-- ---- the call

-- [common-day]: error 12, and then those of the count's dates, 5, 5 and 1 with the start; or the day numbers of both
unfoldable pub checked_set_range : ℕ → Date → Date → Result (ℕ × ℕ) CalendarError
checked_set_range markets start end = cond (not (is_market_set markets)) (Err InvalidMarketSet) (checked_range start end)

-- a day by its date
abbrev pub found_on : Option ℕ → Result (Option Date) CalendarError
found_on day = Ok (option_map date_of day)
