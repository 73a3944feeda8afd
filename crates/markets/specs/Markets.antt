-- Which days trade, as src/markets/mod.rs has it: docs/SCOPE.md [markets], [trading-day], [is-holiday]. A day is its day number.
-- Assumes nothing.
use Rattle.std.specs.Prelude.{ℕ, Bool, not, ◌&&◌, ◌||◌, List, [], ◌∷◌, ltb, eqb, length, get_or}
use Rattle.gregorian.specs.Calendar.{saturday, sunday, date_of, weekday_of}
use Rattle.rule_days.specs.Days.{contains}
use Rattle.markets.specs.Us.{get_us_holidays}
use Rattle.markets.specs.Uk.{get_uk_holidays}
use Rattle.markets.specs.Canada.{get_canada_holidays}
use Rattle.japan.specs.Japan.{get_japan_holidays}

-- create_implementation: the holidays of each market, in the order of the codes, NYSE, NASDAQ, LSE, TSE, TSX
abbrev pub holidays_by_code : List (ℕ → List ℕ)
holidays_by_code = get_us_holidays ∷ get_us_holidays ∷ get_uk_holidays ∷ get_japan_holidays ∷ get_canada_holidays ∷ []

-- [markets]: the codes of that list
unfoldable pub is_market : ℕ → Bool
is_market market = ltb market (length holidays_by_code)

-- The holidays of a market in a year. Any other code has none; the calls check the code first.
unfoldable pub holidays : ℕ → ℕ → List ℕ
holidays market = get_or holidays_by_code market (λ year. [])

-- is_weekend
unfoldable pub is_weekend : ℕ → Bool
is_weekend n = eqb (weekday_of n) saturday || eqb (weekday_of n) sunday

-- MarketImpl::is_holiday: day n is among the holidays of its year, on a weekend or not.
unfoldable pub is_holiday : ℕ → ℕ → Bool
is_holiday market n = contains (holidays market (date_of n).year) n

-- MarketImpl::is_trading_day: day n is no holiday and on no weekend.
unfoldable pub is_trading_day : ℕ → ℕ → Bool
is_trading_day market n = not (is_holiday market n) && not (is_weekend n)
