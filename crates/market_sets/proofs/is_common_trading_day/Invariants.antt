-- The markets so far are not in the set, or they trade; and the markets left.
use Rattle.std.proofs.Common.{◌≡◌, ◌≤◌, ◌-◌, true, length}
use Rattle.markets.specs.Markets.{holidays_by_code}
use Rattle.market_sets.specs.MarketSets.{all_below, trades_if_member}
use Rattle.market_sets.proofs.is_common_trading_day.Given as goal

abbrev pub invariant-loop-market : goal.invariant-loop-market
invariant-loop-market l = record {
  high : l.market ≤ length holidays_by_code;
  passed : all_below l.market (trades_if_member l.markets l.day.number) ≡ true;
}

abbrev pub decreases-loop-market : goal.decreases-loop-market
decreases-loop-market l = length holidays_by_code - l.market
