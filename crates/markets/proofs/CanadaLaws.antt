-- The holidays of Canada by their months.
-- Assumes nothing.
use Rattle.std.proofs.Common.{None}
use Prim.Native.Nat.{ℕ, ◌+◌}
use mathlib.Core.Path.{◌≡◌, refl, ap, sym, ◌∙◌}
use mathlib.Core.Bool.{Bool, true, false, cond, ◌&&◌}
use mathlib.Core.List.{[], ◌∷◌}
use lib.Dec.{leb, eqb, lit≤}
use lib.IntN.{pos}
use native.Mathlib.Omega.{arith}
use borrow.Author.Tests.{eqb-true, eqb-false, ne_eqb}
use Rattle.gregorian.specs.Calendar.{monday, friday, saturday, sunday, day_number, weekday_of}
use Rattle.gregorian.specs.declared.days.CalendarDay.{CalendarDay}
use Rattle.gregorian.proofs.Laws.{days-on}
use Rattle.gregorian.proofs.Weekdays.{weekday-after}
use Rattle.utils.specs.Weekday.{nth_weekday_of_month}
use Rattle.utils.proofs.WeekdayLaws.{last-is}
use Rattle.rule_days.specs.Days.{contains, is_day, match_weekend}
use Rattle.rule_days.specs.Inner.{any_of, is_between}
use Rattle.rule_days.proofs.DayLaws.{contains-none, contains-insert, contains-day, day-low, not-between, not-moved}
use Rattle.rule_days.proofs.RuleMonths.{Fits, ◌and◌, by-month, near, observed, nth, good-friday}
use Rattle.markets.specs.Canada.{family_day, victoria_day, boxing_day, get_canada_holidays}
use Rattle.markets.specs.Inner.{canada_rules}

-- The `match` on both weekdays needs only that of Boxing Day: (_, Sat) and (_, Sun) after the first two arms are never taken.
match-both : (n : ℕ) (s t : Bool) → eqb (weekday_of (n + 1)) saturday ≡ s → eqb (weekday_of (n + 1)) sunday ≡ t → cond (eqb (weekday_of n) friday && s) (n + 1 + 2) (cond (eqb (weekday_of n) saturday && t) (n + 1 + 2) (cond s (n + 1 + 2) (cond t (n + 1 + 1) (n + 1)))) ≡ cond s (n + 1 + 2) (cond t (n + 1 + 2) (n + 1))
match-both n true t p q = simp ((weekday-after n friday (lit≤ tt)).0 (eqb-true _ saturday p))
match-both n false true p q = simp ((weekday-after n saturday (lit≤ tt)).0 (eqb-true _ sunday q))
match-both n false false p q =
    simp (ne_eqb (weekday_of n) friday (λ h. eqb-false _ saturday p ((weekday-after n friday (lit≤ tt)).1 h)), ne_eqb (weekday_of n) saturday (λ h. eqb-false _ sunday q ((weekday-after n saturday (lit≤ tt)).1 h)))

pub boxing-day-is : (y : ℕ) → boxing_day y ≡ match_weekend (day_number y 12 26) (day_number y 12 26 + 2) (day_number y 12 26 + 2)
unfolding boxing_day match_weekend
boxing-day-is y = rw (days-on y 12 25 1) (match-both (day_number y 12 25) _ _ refl refl)

-- A day but 26 to 28 December is not Boxing Day.
pub not-boxing-day : (y n : ℕ) → is_between (day_number y 12 26) (day_number y 12 26 + 2) n ≡ false → false ≡ eqb n (boxing_day y)
not-boxing-day y n e =
    let boxing = day_number y 12 26 in
    not-moved boxing (boxing + 2) boxing (boxing + 2) (boxing + 2) n (omega arith) (omega arith) (omega arith) e ∙ ap (eqb n) (sym (boxing-day-is y))

module _ (day : CalendarDay) where
  abbrev year : ℕ
  year = day.date.year

  abbrev n : ℕ
  n = day.number

  abbrev month : ℕ
  month = day.date.month

  from-2008 : Fits month (2 ∷ []) (is_day (family_day year) n)
  from-2008 = by (leb 2008 year)
    where
      by : (b : Bool) → Fits month (2 ∷ []) (is_day (cond b (nth_weekday_of_month year 2 monday (pos 3)) None) n)
      by true e = nth day 2 monday (pos 3) e
      by false e = cc

  -- from 18 to 24 May
  victoria : Fits month (5 ∷ []) (eqb n (victoria_day year))
  victoria =
      let last = (last-is monday (day_number year 5 24) (lit≤ tt) (omega (arith, day-low year 5 24))).1 in
      let d = days-on year 5 18 6 in
      near day 5 18 6 (eqb n (victoria_day year)) refl refl (not-between _ _ (victoria_day year) n (omega (arith, last, d)) (omega (arith, last, d)))

  -- from 26 to 28 December
  boxing : Fits month (12 ∷ []) (eqb n (boxing_day year))
  boxing = near day 12 26 2 (eqb n (boxing_day year)) refl refl (not-boxing-day year n)

  pub canada-by-month : contains (get_canada_holidays year) n ≡ any_of month (canada_rules year n)
  unfolding get_canada_holidays
  canada-by-month =
      simp (contains-day, contains-insert, contains-none)
      (by-month month false (canada_rules year n)
      (observed day 1 1 refl refl and from-2008 and good-friday day and victoria and observed day 7 1 refl refl and nth day 9 monday (pos 1) and nth day 10 monday (pos 2)
      and observed day 12 25 refl refl and boxing and tt))
