-- `gregorian::days::CalendarDay::previous_day` meets its contract: the number and the date go back together.
use native.Mathlib.Omega.{arith}
use mathlib.Core.Path.{◌∙◌}
use Rattle.gregorian.proofs.DaySteps.{number_is, is-date-of, before_same}
use Rattle.gregorian.proofs.days.CalendarDay.previous_day.Goals as goal

pub date_before-requires : goal.date_before-requires
date_before-requires c =
    let day = c.args.self in
    (is-date-of day, omega (arith, c.requires, number_is day))

pub invariant_of-result : goal.invariant_of-result
invariant_of-result c =
    let day = c.args.self in
    record { low = omega arith; high = omega (arith, day.high); same = c.date_before.ensures ∙ before_same day.number day.date day.low day.same }
