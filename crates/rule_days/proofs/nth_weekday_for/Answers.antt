-- `rule_days::nth_weekday_for` meets its contract: the rule names no day of another weekday.
use mathlib.Core.Path.{◌∙◌}
use Rattle.rule_days.proofs.DayLaws.{not-nth}
use Rattle.rule_days.proofs.nth_weekday_for.Goals as goal

pub returns-then-weekday : goal.returns-then-weekday
returns-then-weekday c =
    let a = c.args in
    not-nth a.year a.month a.weekday a.nth a.n (λ e. c.if-weekday.true (c.weekday.ensures ∙ e))
