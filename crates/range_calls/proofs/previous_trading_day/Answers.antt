-- `range_calls::previous_trading_day` meets its contract: the neighbour of the day past the checks.
use Rattle.range_calls.proofs.RangeLaws.{neighbour-is}
use Rattle.range_calls.proofs.previous_trading_day.Goals as goal

pub returns : goal.returns
returns c = neighbour-is _ _ _ _ _ _ _ _ c.in_ok-day.ensures c.previous_trading_day-previous.ensures c.trading_day_result.ensures
