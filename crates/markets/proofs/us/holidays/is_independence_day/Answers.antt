-- `markets::us::holidays::is_independence_day` meets its contract: away from 4 July.
use Rattle.markets.proofs.UsLaws.{not-independence-day}
use Rattle.rule_days.proofs.RuleMonths.{is-away}
use Rattle.markets.proofs.us.holidays.is_independence_day.Goals as goal

pub returns-then-not-is_within : goal.returns-then-not-is_within
returns-then-not-is_within c = not-independence-day _ _ (is-away c.args.day _ _ _ c.is_within.ensures c.if-not-is_within.true)
