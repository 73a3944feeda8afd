-- `range_calls::counts::trading_days_in_month` meets its contract.
use Rattle.std.proofs.Common.{sym}
use Rattle.checks.proofs.CheckLaws.{month-checked}
use Rattle.range_calls.proofs.counts.trading_days_in_month.Goals as goal

pub write_days-requires : goal.write_days-requires
write_days-requires c = (month-checked _ _ _ (sym c.in_ok-checked_month.ensures)).first-date
