-- `rule_days::is_good_friday` meets its contract: away from Easter none.
use mathlib.Core.Path.{sym, ◌∙◌}
use Rattle.rule_days.proofs.RuleMonths.{good-friday-around, away-from-easter}
use Rattle.rule_days.proofs.is_good_friday.Goals as goal

pub returns-else-is_around_easter : goal.returns-else-is_around_easter
returns-else-is_around_easter c =
    let away = c.if-is_around_easter.false in
    away ∙ away-from-easter c.args.day _ (good-friday-around c.args.day) (sym c.is_around_easter.ensures ∙ away)
