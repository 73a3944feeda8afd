-- `rule_days::is_within` meets its contract: the days of a month and their numbers have one order.
use Rattle.rule_days.proofs.RuleMonths.{same-within}
use Rattle.rule_days.proofs.is_within.Goals as goal

pub returns : goal.returns
returns c = same-within c.args.date _ _ _ c.requires.0
