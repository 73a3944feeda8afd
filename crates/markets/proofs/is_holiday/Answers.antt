-- `markets::is_holiday` meets its contract: the rules of a month answer as the whole year's holidays.
use mathlib.Core.Path.{◌∙◌}
use Rattle.markets.proofs.MonthFirst.{month-first}
use Rattle.markets.proofs.is_holiday.Goals as goal

pub returns : goal.returns
returns c = c.is_holiday_on.ensures ∙ month-first c.args.market c.args.day
