-- The longest run of non-trading days, and the agreement that follows from it for each market, on day numbers: docs/SCOPE.md
-- [agreement], [agreement-call]. Assumes nothing.
use Rattle.std.specs.Prelude.{ℕ, suc, ◌-◌, ◌≤◌, ◌≡◌, true}
use Rattle.gregorian.specs.Calendar.{day_number}
use Rattle.markets.specs.Markets.{is_market, is_trading_day}
use Rattle.markets.specs.Years.{min_year, max_year, min_day, max_day, first_day_of, last_day_of}
use Rattle.ranges.specs.Steps.{ShortRuns}
use Rattle.ranges.specs.Agreement.{Agreement}

-- [agreement-call]: at most ten
abbrev pub longest_run : ℕ
longest_run = 10

-- the claim: no run of non-trading days is longer than that, for each market, from the year before the supported ones to the year after
abbrev pub MarketRuns : Type 0
MarketRuns =
    (market : ℕ) → is_market market ≡ true → ShortRuns (is_trading_day market) longest_run (day_number (min_year - 1) 1 1) (day_number (suc max_year) 12 31)

-- the claim: the ways to the trading days agree, for each market and every two days of the supported years in order
abbrev pub MarketsAgree : Type 0
MarketsAgree =
    (market a b : ℕ) → is_market market ≡ true → min_day ≤ a → a ≤ b → b ≤ max_day
    → Agreement (is_trading_day market) longest_run (first_day_of market) (last_day_of market) a b
