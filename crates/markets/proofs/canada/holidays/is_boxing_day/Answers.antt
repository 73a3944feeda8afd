-- `markets::canada::holidays::is_boxing_day` meets its contract: away from 26 December.
use Rattle.markets.proofs.CanadaLaws.{not-boxing-day}
use Rattle.rule_days.proofs.RuleMonths.{is-away}
use Rattle.markets.proofs.canada.holidays.is_boxing_day.Goals as goal

pub returns-then-not-is_within : goal.returns-then-not-is_within
returns-then-not-is_within c = not-boxing-day _ _ (is-away c.args.day _ _ _ c.is_within.ensures c.if-not-is_within.true)
