-- `gregorian::days::CalendarDay::next_day` meets its contract: the day after is a day of the years.
use native.Mathlib.Omega.{arith}
use mathlib.Core.Path.{ap, sym, ◌∙◌}
use Rattle.gregorian.specs.Calendar.{date_of}
use Rattle.gregorian.proofs.days.CalendarDay.next_day.Goals as goal

pub invariant_of-result : goal.invariant_of-result
invariant_of-result c =
    let after = c.day_after-number.ensures in
    record { low = omega (arith, after.0); high = omega (arith, after.0, c.requires); same = after.1 ∙ ap date_of (sym after.0) }
