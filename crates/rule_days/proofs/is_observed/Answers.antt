-- `rule_days::is_observed` meets its contract: away from the day.
use Rattle.gregorian.specs.Calendar.{day_number}
use Rattle.rule_days.proofs.DayLaws.{not-observed}
use Rattle.rule_days.proofs.RuleMonths.{is-away}
use Rattle.rule_days.proofs.is_observed.Goals as goal

pub returns-then-not-is_within : goal.returns-then-not-is_within
returns-then-not-is_within c =
    let a = c.args in
    not-observed (day_number a.day.date.year a.month a.d) a.day.number (is-away c.args.day _ _ _ c.is_within.ensures c.if-not-is_within.true)
