-- `Days::next` meets its contract: the next day, and then the days after it; or none is left.
use Rattle.std.proofs.Common.{rules, ◌≡◌, length, ap, arith}
use Rattle.gregorian.specs.declared.days.CalendarDay.{CalendarDay}
use Rattle.ranges.proofs.Lists.{days-none, day-first}
use Rattle.ranges.proofs.DaysIterator.next.Goals as goal
use Rattle.ranges.proofs.DaysIterator.next.Goals.{then-self-2, else-self-2}

pub returns-then-self-clause-steps : goal.returns-then-self-clause-steps
returns-then-self-clause-steps c =
    let none = days-none _ _ c.if-self.true in
    (none, none)

pub returns : goal.returns
returns c =
    let s = c.args.self.now in
    let day : c.if-self-2.day.number ≡ s.next = elim c.if-self-2.branch [
      | then-self-2 w ↦ omega (arith, ap (λ (day : CalendarDay). day.number) w.day-is, w.next_day-day.ensures, s.near)
      | else-self-2 w ↦ omega (arith, ap (λ (day : CalendarDay). day.number) w.day-is, s.near)
    ] in
    let first = day-first s.next s.last c.if-self-2.day.number c.if-self.false day in
    let fewer = ap length first in
    record { steps = first; goes = search rules }
