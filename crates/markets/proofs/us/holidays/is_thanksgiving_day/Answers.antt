-- `markets::us::holidays::is_thanksgiving_day` meets its contract: no other weekday.
use mathlib.Core.Path.{◌∙◌}
use lib.IntN.{pos}
use Rattle.gregorian.specs.Calendar.{thursday}
use Rattle.rule_days.proofs.DayLaws.{not-nth}
use Rattle.markets.proofs.us.holidays.is_thanksgiving_day.Goals as goal

pub returns-then-weekday-ne-THURSDAY : goal.returns-then-weekday-ne-THURSDAY
returns-then-weekday-ne-THURSDAY c = not-nth _ 11 thursday (pos 4) _ (λ e. c.if-weekday-ne-THURSDAY.true (c.weekday.ensures ∙ e))
