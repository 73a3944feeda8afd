-- `markets::uk::holidays::is_easter_monday` meets its contract: away from Easter.
use mathlib.Core.Path.{sym, ◌∙◌}
use Rattle.rule_days.proofs.RuleMonths.{easter-monday-around, away-from-easter}
use Rattle.markets.proofs.uk.holidays.is_easter_monday.Goals as goal

pub returns-else-is_around_easter : goal.returns-else-is_around_easter
returns-else-is_around_easter c =
    let away = c.if-is_around_easter.false in
    away ∙ away-from-easter c.args.day _ (easter-monday-around c.args.day) (sym c.is_around_easter.ensures ∙ away)
