-- `gregorian::days::CalendarDay::day_after` meets its contract: the number and the date go on together.
use mathlib.Core.Path.{refl, ◌∙◌}
use Rattle.gregorian.proofs.DaySteps.{is-date-of, after_same}
use Rattle.gregorian.proofs.days.CalendarDay.day_after.Goals as goal

pub date_after-requires : goal.date_after-requires
date_after-requires c = is-date-of c.args.self

pub returns : goal.returns
returns c =
    let day = c.args.self in
    (refl, c.date_after.ensures ∙ after_same day.number day.date day.low day.same)
