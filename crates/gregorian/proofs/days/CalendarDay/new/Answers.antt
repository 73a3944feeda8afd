-- `gregorian::days::CalendarDay::new` meets its contract: a date and its number.
use Rattle.gregorian.proofs.DaySteps.{numbered}
use Rattle.gregorian.proofs.days.CalendarDay.new.Goals as goal

pub invariant_of-result : goal.invariant_of-result
invariant_of-result c =
    let n = numbered _ _ _ _ c.requires c.day_number.ensures in
    record { low = n.0; high = n.1; same = n.2 }
