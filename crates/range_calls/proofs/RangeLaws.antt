-- The laws of the answers of next and previous.
-- Assumes nothing.
use Rattle.std.proofs.Common.{Option, Result, Ok}
use Prim.Native.Nat.{ℕ, ◌-◌, ◌≤◌, ◌<◌}
use mathlib.Core.Path.{◌≡◌, ap, ◌∙◌}
use mathlib.Core.Bool.{true}
use borrow.Author.Tests.{lt-ltb, le-ltb}
use Rattle.gregorian.specs.Calendar.{is_date, day_number}
use Rattle.markets.specs.Markets.{is_market}
use Rattle.checks.specs.Checks.{checked_day}
use Rattle.range_calls.specs.RangeCalls.{distance_of, trading_day_result, neighbour_result}
use Rattle.error.proofs.ErrorLaws.{past-ok}
use Rattle.checks.proofs.CheckLaws.{day-passes}
use Rattle.error.specs.declared.CalendarError.{CalendarError}
use Rattle.range_calls.specs.declared.TradingDay.{TradingDay}

-- The distance to a later day, and to an earlier one.
module _ (n m r : ℕ) where
  pub to-later : n < m → r ≡ m - n → r ≡ distance_of n m
  unfolding distance_of
  to-later h e = simp (lt-ltb n m h) e

  pub to-earlier : m ≤ n → r ≡ n - m → r ≡ distance_of n m
  unfolding distance_of
  to-earlier h e = simp (le-ltb n m h) e

-- The answer of either call: that to the neighbour of the day past the checks.
pub neighbour-is : (neighbour : ℕ → Option ℕ) (market year month day n : ℕ) (o : Option ℕ) (r : Result TradingDay CalendarError)
    → Ok n ≡ checked_day market year month day → o ≡ neighbour n → r ≡ trading_day_result year n o
    → r ≡ neighbour_result neighbour market year month day
neighbour-is neighbour market year month day n o r q e f =
    past-ok (λ n. trading_day_result year n (neighbour n)) _ n r q (f ∙ ap (trading_day_result year n) e)

-- What a call answers on a date.
pub neighbour-of-date : (neighbour : ℕ → Option ℕ) (market year month day : ℕ) → is_market market ≡ true → is_date year month day ≡ true
    → neighbour_result neighbour market year month day ≡ trading_day_result year (day_number year month day) (neighbour (day_number year month day))
neighbour-of-date neighbour market year month day h d = simp (day-passes market year month day h d)
