-- `DaysBefore::next` meets its contract: the day before, and then the days before that; or none is left.
use Rattle.std.proofs.Common.{rules, ◌-◌, length, reverse, ap, arith}
use Rattle.ranges.proofs.Lists.{days-none, day-last}
use Rattle.ranges.proofs.DaysBeforeIterator.next.Goals as goal

pub returns-then-self-clause-steps : goal.returns-then-self-clause-steps
returns-then-self-clause-steps c =
    let s = c.args.self.now in
    let none = ap reverse (days-none s.first (s.day.number - 1) (omega (arith, s.low))) in
    (none, none)

pub returns : goal.returns
returns c =
    let s = c.args.self.now in
    let last = day-last s.first (s.day.number - 1) c.previous_day-self.result.number (omega (arith, s.low)) (omega arith) (omega (arith, c.previous_day-self.ensures)) in
    let fewer = ap length last in
    record { steps = last; goes = search rules }
