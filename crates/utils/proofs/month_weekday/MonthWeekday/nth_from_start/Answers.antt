-- `utils::month_weekday::MonthWeekday::nth_from_start` meets its contract: each return answers by the tests before it.
use Rattle.std.proofs.Common.{Some}
use Prim.Native.Nat.{◌+◌, ◌-◌, ◌*◌, ◌≤◌}
use mathlib.Core.Path.{◌≡◌, ap, sym, ◌∙◌, subst}
use native.Mathlib.Omega.{arith}
use borrow.Author.Tests.{lt-leb, le-leb}
use lib.IntN.{pos}
use Rattle.gregorian.specs.Calendar.{last_day}
use Rattle.gregorian.proofs.Laws.{number-range, early-date}
use Rattle.utils.specs.Weekday.{if_in_month, target_day, nth_from_start, most_nth, nth_weekday_of_month}
use Rattle.utils.specs.Inner.{InYears}
use Rattle.utils.proofs.WeekdayLaws.{nth-early, week-from-start, nth-in-years}
use Rattle.utils.proofs.month_weekday.MonthWeekday.nth_from_start.Goals as goal

pub returns-then-n-lt1 : goal.returns-then-n-lt1
unfolding nth_from_start
returns-then-n-lt1 c =
    let a = c.args in
    (simp (le-leb a.n most_nth (omega arith), c.args.self.is_month, le-leb _ _ c.args.self.is_weekday, lt-leb 1 a.n (omega arith)), tt)

-- the first four
pub up_to-requires : goal.up_to-requires
up_to-requires c =
    (early-date _ _ _ c.args.self.is_month (omega arith) (omega arith), omega arith)

pub returns-then-n-lt5 : goal.returns-then-n-lt5
returns-then-n-lt5 c =
    let a = c.args in
    let r = c.up_to.ensures in
    let low : 1 ≤ a.n = omega arith in
    let high : a.n ≤ 4 = omega arith in
    let day = r.0 ∙ week-from-start a.self.year a.self.month a.self.weekday a.n c.args.self.is_weekday low in (
      simp (le-leb a.n most_nth (omega arith)) (ap Some day ∙ sym (nth-early a.self.year a.self.month a.self.weekday a.n c.args.self.is_month c.args.self.is_weekday low high)),
      early-date _ _ _ c.args.self.is_month (omega (arith, r.2, low)) (omega (arith, r.1, high)),
    )

pub returns-then-n-gt-MOST_NTH : goal.returns-then-n-gt-MOST_NTH
returns-then-n-gt-MOST_NTH c = (simp (lt-leb c.args.n most_nth (omega arith)), tt)

-- the others: the first is one of the first seven days,
pub up_to-first-requires : goal.up_to-first-requires
up_to-first-requires c = (early-date _ _ _ c.args.self.is_month (omega arith) (omega arith), omega arith)

pub day_number-requires : goal.day_number-requires
day_number-requires c = let r = c.up_to-first.ensures in early-date _ _ _ c.args.self.is_month (omega (arith, r.2)) (omega (arith, r.1))

-- and a date
first_range : (c : goal.After-day_number) → (1 ≤ c.day_number.result) × (c.day_number.result ≤ last_day)
first_range c = let r = number-range _ _ _ (day_number-requires c.before) in (omega (arith, c.day_number.ensures, r), omega (arith, c.day_number.ensures, r))

pub overflow_add-target : goal.overflow_add-target
overflow_add-target c = record { fits = omega (arith, first_range c) }

pub if_in_month-requires : goal.if_in_month-requires
if_in_month-requires c = omega (arith, first_range c)

target_is : (c : goal.After-if_in_month) → (let a = c.args in c.if_in_month.result ≡ nth_weekday_of_month a.self.year a.self.month a.self.weekday (pos a.n))
unfolding nth_from_start target_day
target_is c =
    let a = c.args in
    let low : 1 ≤ a.n = omega arith in
    let first = c.up_to-first.ensures.0 ∙ week-from-start a.self.year a.self.month a.self.weekday 1 c.args.self.is_weekday (omega arith) in
    let target : c.day_number.result + 7 * (a.n - 1) ≡ target_day a.self.year a.self.month a.self.weekday a.n = omega (arith, c.day_number.ensures, first) in
    simp (le-leb a.n most_nth (omega arith), c.args.self.is_month, le-leb _ _ c.args.self.is_weekday, le-leb 1 a.n low) (c.if_in_month.ensures ∙ ap (if_in_month _) target)

pub by_number-requires : goal.by_number-requires
by_number-requires c =
    let a = c.args in
    subst InYears (sym (target_is c)) (nth-in-years a.self.year a.self.month a.self.weekday (pos a.n))

pub returns : goal.returns
returns c = let r = c.by_number.ensures _ _ in (r.0 ∙ target_is c.before, r.1)
