-- `rule_days::fixed_day` meets its contract: so many days on from the day before the month.
use Prim.Native.Nat.{ℕ, ◌+◌, ◌-◌, ◌≤◌}
use mathlib.Core.Path.{◌≡◌, ap, sym, ◌∙◌}
use native.Mathlib.Omega.{arith}
use Rattle.gregorian.specs.Calendar.{day_number}
use Rattle.gregorian.specs.declared.days.CalendarDay.{CalendarDay}
use Rattle.gregorian.proofs.DaySteps.{number_is}
use Rattle.rule_days.proofs.DayLaws.{day-low, day-from}
use Rattle.rule_days.proofs.fixed_day.Goals as goal

-- the day of the month is at most the number
number-parts : (day : CalendarDay) → (let t = day.date in (day_number t.year t.month t.day ≡ day.number) × (t.day ≤ day.number))
number-parts day =
    let t = day.date in
    let e = number_is day in
    (e, omega (arith, e, day-low t.year t.month t.day))

pub overflow_sub-result : goal.overflow_sub-result
overflow_sub-result c = (number-parts c.args.day).1

pub returns : goal.returns
returns c =
    let a = c.args in
    let t = a.day.date in
    let k = number-parts a.day in
    (ap (λ (n : ℕ). n - t.day + a.d) (sym k.0) ∙ day-from t.year t.month t.day a.d ∙ ap (λ (m : ℕ). day_number t.year m a.d) c.requires.0, omega arith, omega arith)
