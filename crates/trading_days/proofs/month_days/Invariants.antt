-- The days so far, with those that are left, are all of the list.
use Rattle.std.proofs.Common.{◌≡◌, ◌<◌, ◌≤◌, suc, ◌++◌, length, take}
use Rattle.gregorian.specs.Calendar.{month_length}
use Rattle.ranges.specs.Ranges.{trading_days}
use Rattle.trading_days.specs.Month.{month_list}
use Rattle.trading_days.proofs.MonthDayLaws.{in_month}
use Rattle.trading_days.proofs.month_days.Given as goal

abbrev pub invariant-loop-day : goal.invariant-loop-day
invariant-loop-day l = record {
  size : length l.days ≡ 31;
  below : l.count < l.day;
  to : l.day ≤ suc (month_length l.year l.month);
  left : month_list l.market l.year l.month ≡ take l.count l.days ++ trading_days (in_month l.market l.year l.month) l.day (month_length l.year l.month);
}
