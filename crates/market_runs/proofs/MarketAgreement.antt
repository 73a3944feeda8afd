-- No run of non-trading days of a market is longer than ten, and so the ways to its trading days agree.
-- Assumes nothing.
use Prim.Native.Nat.{ℕ, suc, ◌+◌, ◌-◌}
use mathlib.Core.Path.{◌≡◌, refl, ap, ◌∙◌, subst}
use mathlib.Core.Bool.{true}
use lib.Dec.{lit≤}
use lib.ListN.{length}
use native.Mathlib.Omega.{arith}
use Rattle.gregorian.specs.Calendar.{leap, leap_day, year_length, month_length, total, day_number}
use Rattle.gregorian.proofs.Total.{Upto, upto}
use Rattle.markets.specs.Markets.{holidays_by_code, is_trading_day}
use Rattle.markets.specs.Years.{min_year, max_year, min_day, max_day, first_day_of, last_day_of}
use Rattle.markets.proofs.MarketLaws.{market-code}
use Rattle.markets.proofs.YearLaws.{all-days}
use Rattle.ranges.specs.Ranges.{days_from}
use Rattle.ranges.specs.Steps.{ShortRuns}
use Rattle.ranges.proofs.Agreement.{agree-inside}
use Rattle.ranges.proofs.Runs.{runs_up_to, short-runs}
use Rattle.market_runs.specs.MarketAgreement.{longest_run, MarketRuns, MarketsAgree}
use Rattle.market_runs.proofs.ClosedForms.{closed_holidays}
use Rattle.market_runs.proofs.YearFlags.{trading_flags, before, year_flags, year-flags}

-- the year before the supported ones, and how many years are looked at from there on
abbrev before-years : ℕ
before-years = min_year - 1

abbrev years : ℕ
years = suc (suc max_year) - before-years

-- the test of a market
abbrev Short : ℕ → Type 0
Short market = runs_up_to longest_run 0 (year_flags market years before-years (lit≤ tt) (lit≤ tt)) ≡ true

all_short : Upto Short (length holidays_by_code)
unfolding runs_up_to trading_flags year_flags days_from closed_holidays
all_short = (((((tt, refl), refl), refl), refl), refl)

-- the first and the last of all these days, and of the supported years
abbrev low : ℕ
low = day_number before-years 1 1

abbrev high : ℕ
high = day_number (suc max_year) 12 31

abbrev Bounds : Type 0
Bounds =
    (suc (before before-years) ≡ low) × (before (before-years + years) ≡ high) × (low ≡ 737060) × (min_day ≡ 737425) × (max_day ≡ 741442) × (high ≡ 741807)

pub bounds : Bounds
unfolding total year_length leap_day leap month_length day_number
bounds = (refl, refl, refl, refl, refl, refl)

pub market-runs : MarketRuns
market-runs market k =
    let all = ap (runs_up_to longest_run 0) (year-flags market years before-years (lit≤ tt) (lit≤ tt)) ∙ upto Short (length holidays_by_code) all_short market (market-code market k) in
    subst (λ (a : ℕ). ShortRuns (is_trading_day market) longest_run a high) bounds.0
    (short-runs (is_trading_day market) longest_run (suc (before before-years)) _ high all (omega (arith, bounds)))

pub markets-agree : MarketsAgree
markets-agree market a b k l h u =
    let all = all-days market in
    agree-inside (is_trading_day market) longest_run (first_day_of market) (last_day_of market) low high a b (omega (arith, all.0)) (market-runs market k)
    (omega (arith, bounds, all.0)) (omega (arith, bounds, all.1)) (omega (arith, bounds, l)) h (omega (arith, bounds, u))
