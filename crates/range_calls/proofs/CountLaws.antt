-- The count past its checks.
-- Assumes nothing.
use Rattle.std.proofs.Common.{Ok}
use Prim.Native.Nat.{ℕ, ◌≤◌}
use mathlib.Core.Path.{◌≡◌}
use mathlib.Core.Bool.{true}
use Rattle.gregorian.specs.Calendar.{is_date, date, day_number}
use Rattle.markets.specs.Markets.{is_market, is_trading_day}
use Rattle.markets.specs.Years.{min_year, max_year}
use Rattle.ranges.specs.Ranges.{count_trading_days}
use Rattle.checks.proofs.CheckLaws.{range-passes}
use Rattle.range_calls.specs.RangeCalls.{count_trading_days_result}

pub count-of-dates : (market start_year start_month start_day end_year end_month end_day : ℕ) → is_market market ≡ true → is_date start_year start_month start_day ≡ true → is_date end_year end_month end_day ≡ true → min_year ≤ start_year → end_year ≤ max_year
    → count_trading_days_result market start_year start_month start_day end_year end_month end_day
    ≡ Ok (count_trading_days (is_trading_day market) (day_number start_year start_month start_day) (day_number end_year end_month end_day))
count-of-dates market start_year start_month start_day end_year end_month end_day k p q l u =
    simp (k, range-passes (date start_year start_month start_day) (date end_year end_month end_day) p q l u)
