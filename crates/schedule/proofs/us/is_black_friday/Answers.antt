-- `schedule::us::is_black_friday` meets its contract: the day after Thanksgiving is a number.
use mathlib.Core.Path.{sym, ◌∙◌, subst}
use native.Mathlib.Omega.{arith}
use lib.IntN.{pos}
use Rattle.gregorian.specs.Calendar.{thursday}
use Rattle.utils.specs.Inner.{InYears}
use Rattle.utils.proofs.WeekdayLaws.{nth-in-years}
use Rattle.schedule.proofs.us.is_black_friday.Goals as goal

pub overflow_add-result : goal.overflow_add-result
overflow_add-result c =
    omega (arith, subst InYears (sym (sym c.in-Some.is ∙ c.thanksgiving_day.ensures)) (nth-in-years _ 11 thursday (pos 4)))
