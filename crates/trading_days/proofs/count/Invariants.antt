-- The number and the date are of one day; the count so far, with that of the days that are left, is all of the count.
use Rattle.std.proofs.Common.{◌≡◌, ◌≤◌, ◌+◌, ◌-◌, suc, length}
use Rattle.gregorian.specs.Calendar.{last_day, date_of}
use Rattle.markets.specs.Markets.{is_trading_day}
use Rattle.ranges.specs.Ranges.{days, filter, count_trading_days}
use Rattle.trading_days.proofs.count.Given as goal

abbrev pub invariant-loop-number : goal.invariant-loop-number
invariant-loop-number l = let left = days l.number l.last in record {
  low : 1 ≤ l.number;
  same : l.date ≡ date_of l.number;
  last_in : l.last ≤ last_day;
  below : l.count + length left ≤ last_day;
  counted : count_trading_days (is_trading_day l.market) l.fn.first l.last ≡ l.count + length (filter (is_trading_day l.market) left);
}

abbrev pub decreases-loop-number : goal.decreases-loop-number
decreases-loop-number l = suc l.last - l.number
