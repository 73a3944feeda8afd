-- `utils::month_weekday::MonthWeekday::up_to` meets its contract: so many days before the day.
use Prim.Native.Nat.{ℕ, ◌+◌, ◌-◌, ◌≤◌}
use mathlib.Core.Path.{◌≡◌, ap, ◌∙◌}
use native.Mathlib.Omega.{arith}
use Rattle.gregorian.specs.Calendar.{day_number}
use Rattle.gregorian.proofs.Laws.{number-range}
use Rattle.utils.specs.Weekday.{last_up_to}
use Rattle.utils.proofs.WeekdayLaws.{last-is}
use Rattle.utils.proofs.month_weekday.MonthWeekday.up_to.Goals as goal

day-low : (y m d : ℕ) → d ≤ day_number y m d
unfolding day_number
day-low y m d = omega arith

-- day d of the month, less the days from t to it, is day t
days-before : (y m d n t : ℕ) → n ≡ day_number y m d → t ≤ n → n ≤ t + d → day_number y m (d - (n - t)) ≡ t
unfolding day_number
days-before y m d n t e l h = omega arith

pub last_up_to-requires : goal.last_up_to-requires
last_up_to-requires c =
    let p = c.requires in
    let n = c.day_number-n.ensures in
    (c.args.self.is_weekday, omega (arith, p.1, n, day-low c.args.self.year c.args.self.month c.args.day), omega (arith, n, number-range _ _ _ p.0))

-- the answer of last_up_to is one of the seven days up to n
near : (c : goal.After-last_up_to) → (let n = c.day_number-n.result in (c.last_up_to.result ≤ n) × (n ≤ c.last_up_to.result + 6))
near c =
    let p = c.requires in
    let n = c.day_number-n.result in
    let e = c.last_up_to.ensures in
    let i = (last-is c.args.self.weekday n c.args.self.is_weekday (omega (arith, p.1, c.day_number-n.ensures, day-low c.args.self.year c.args.self.month c.args.day))).1 in
    (omega (arith, e, i), omega (arith, e, i))

pub overflow_sub-result : goal.overflow_sub-result
overflow_sub-result c = (near c).0

pub overflow_sub-result-2 : goal.overflow_sub-result-2
overflow_sub-result-2 c = omega (arith, (near c).1, c.requires.1)

pub returns : goal.returns
returns c =
    let a = c.args in
    let k = near c in
    (days-before a.self.year a.self.month a.day _ _ c.day_number-n.ensures k.0 (omega (arith, k.1, c.requires.1)) ∙ c.last_up_to.ensures ∙ ap (last_up_to a.self.weekday) c.day_number-n.ensures, omega arith, omega (arith, k.1))
