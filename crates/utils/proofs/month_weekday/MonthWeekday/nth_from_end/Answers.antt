-- `utils::month_weekday::MonthWeekday::nth_from_end` meets its contract: each return answers by the tests before it.
use Rattle.std.proofs.Common.{Some}
use Prim.Native.Nat.{ℕ, ◌-◌, ◌*◌, ◌≤◌}
use mathlib.Core.Path.{◌≡◌, ap, sym, ◌∙◌, subst}
use mathlib.Core.Bool.{true}
use native.Mathlib.Omega.{arith}
use borrow.Author.Tests.{lt-ltb, le-ltb}
use lib.IntN.{negsuc}
use Rattle.gregorian.specs.Calendar.{day_number, month_length, is_date}
use Rattle.gregorian.proofs.Laws.{is-date, date-by, month-low}
use Rattle.utils.specs.Inner.{InYears}
use Rattle.utils.specs.Weekday.{last_up_to, weeks_before, weeks_before_last, most_nth, nth_weekday_of_month}
use Rattle.utils.proofs.WeekdayLaws.{HasLast, last_found, end-without-next, end-early, week-from-end, nth-in-years}
use Rattle.utils.proofs.month_weekday.MonthWeekday.nth_from_end.Goals as goal

pub returns-then-not-has_next_month : goal.returns-then-not-has_next_month
returns-then-not-has_next_month c =
    (sym (end-without-next _ _ _ c.args.k c.args.self.is_month c.args.self.is_weekday (sym c.has_next_month.ensures ∙ c.if-not-has_next_month.true)), tt)

-- a day of the month from the 1st to the last
in-month : (y m d : ℕ) → is_date y m 1 ≡ true → 1 ≤ d → d ≤ month_length y m → is_date y m d ≡ true
in-month y m d h l u =
    let g = is-date y m 1 h in
    let x = g.exists in
    date-by y m d (x.y-low, g.y-high) (x.m-low, x.m-high) (l, u)

-- the length of the month: 28 or more
length-is : (y m n : ℕ) → is_date y m 1 ≡ true → n ≡ month_length y m → (n ≡ month_length y m) × (28 ≤ month_length y m)
length-is y m n h e = let x = (is-date y m 1 h).exists in (e, month-low y m x.m-low x.m-high)

-- the last four
pub overflow_sub-length : goal.overflow_sub-length
overflow_sub-length c = omega (arith, length-is _ _ _ c.args.self.is_month c.days_in_month-length.ensures)

pub up_to-requires : goal.up_to-requires
up_to-requires c =
    let l = length-is _ _ _ c.args.self.is_month c.days_in_month-length.ensures in
    (in-month _ _ _ c.args.self.is_month (omega (arith, l)) (omega (arith, l)), omega (arith, l))

pub returns-then-k-lt4 : goal.returns-then-k-lt4
returns-then-k-lt4 c =
    let a = c.args in
    let l = length-is _ _ _ c.args.self.is_month c.days_in_month-length.ensures in
    let h : HasLast a.self.year a.self.month a.self.weekday = record { is-month = c.args.self.is_month; is-weekday = c.args.self.is_weekday; has-next = sym c.has_next_month.ensures ∙ c.if-not-has_next_month.false } in
    let r = c.up_to.ensures in
    let up_to_lem = r.0 ∙ ap (λ (n : ℕ). last_up_to a.self.weekday (day_number a.self.year a.self.month (n - 7 * a.k))) l.0 in
    let day = up_to_lem ∙ week-from-end a.self.year a.self.month a.self.weekday a.k h.is-weekday (omega (arith, l)) in (
      simp (lt-ltb a.k most_nth (omega arith)) (ap Some day ∙ sym (end-early a.self.year a.self.month a.self.weekday a.k h (omega arith))),
      in-month _ _ _ h.is-month (omega (arith, r, l)) (omega (arith, r, l)),
    )

pub returns-then-k-ge-MOST_NTH : goal.returns-then-k-ge-MOST_NTH
returns-then-k-ge-MOST_NTH c = (simp (le-ltb c.args.k most_nth (omega arith)), tt)

-- the others
pub up_to-last-requires : goal.up_to-last-requires
up_to-last-requires c =
    let l = length-is _ _ _ c.args.self.is_month c.days_in_month-length.ensures in
    (in-month _ _ _ c.args.self.is_month (omega (arith, l)) (omega (arith, l)), omega (arith, l))

pub day_number-last_day-requires : goal.day_number-last_day-requires
day_number-last_day-requires c =
    let l = length-is _ _ _ c.args.self.is_month c.days_in_month-length.ensures in
    let r = c.up_to-last.ensures in
    in-month _ _ _ c.args.self.is_month (omega (arith, l, r)) (omega (arith, l, r))

target_is : (c : goal.After-weeks_before) → (let a = c.args in c.weeks_before.result ≡ nth_weekday_of_month a.self.year a.self.month a.self.weekday (negsuc a.k))
unfolding weeks_before_last
target_is c =
    let a = c.args in
    let has-next = sym c.has_next_month.ensures ∙ c.if-not-has_next_month.false in
    let last = c.day_number-last_day.ensures ∙ c.up_to-last.ensures.0 ∙ ap (λ (n : ℕ). last_up_to a.self.weekday (day_number a.self.year a.self.month n)) c.days_in_month-length.ensures in
    simp (lt-ltb a.k most_nth (omega arith), last_found a.self.year a.self.month a.self.weekday c.args.self.is_month c.args.self.is_weekday has-next)
    (c.weeks_before.ensures ∙ ap (weeks_before a.self.month a.k) last)

pub by_number-requires : goal.by_number-requires
by_number-requires c =
    let a = c.args in
    subst InYears (sym (target_is c)) (nth-in-years a.self.year a.self.month a.self.weekday (negsuc a.k))

pub returns : goal.returns
returns c = let r = c.by_number.ensures _ _ in (r.0 ∙ target_is c.before, r.1)
