-- The holidays of the US by their months.
-- Assumes nothing.
use Prim.Native.Nat.{ℕ, ◌+◌, ◌-◌}
use mathlib.Core.Path.{◌≡◌, refl}
use mathlib.Core.Bool.{false, ◌&&◌}
use mathlib.Core.List.{[], ◌∷◌}
use lib.Dec.{leb, eqb}
use lib.IntN.{pos}
use native.Mathlib.Omega.{arith}
use Rattle.gregorian.specs.Calendar.{monday, thursday, day_number}
use Rattle.gregorian.specs.declared.days.CalendarDay.{CalendarDay}
use Rattle.gregorian.proofs.Laws.{days-on}
use Rattle.gregorian.proofs.Tests.{and_right}
use Rattle.utils.specs.Weekday.{minus}
use Rattle.rule_days.specs.Days.{contains}
use Rattle.rule_days.specs.Inner.{any_of, is_between}
use Rattle.rule_days.proofs.DayLaws.{contains-none, contains-insert, contains-if, contains-day, not-moved}
use Rattle.rule_days.proofs.RuleMonths.{Fits, ◌and◌, by-month, near, observed, nth, good-friday}
use Rattle.markets.specs.Us.{independence_day, juneteenth, get_us_holidays}
use Rattle.markets.specs.Inner.{us_rules}

-- A day but 3 to 5 July is not Independence Day.
pub not-independence-day : (y n : ℕ) → is_between (day_number y 7 3) (day_number y 7 3 + 2) n ≡ false → false ≡ eqb n (independence_day y)
not-independence-day y n =
    let july4 = day_number y 7 4 in
    let d = days-on y 7 3 1 in
    not-moved _ _ july4 (july4 - 1) (july4 + 1) n (omega (arith, d)) (omega (arith, d)) (omega (arith, d))

module _ (day : CalendarDay) where
  abbrev year : ℕ
  year = day.date.year

  abbrev n : ℕ
  n = day.number

  abbrev month : ℕ
  month = day.date.month

  independence : Fits month (7 ∷ []) (eqb n (independence_day year))
  independence = near day 7 3 2 (eqb n (independence_day year)) refl refl (not-independence-day year n)

  from-2021 : Fits month (6 ∷ []) (leb 2021 year && eqb n (juneteenth year))
  from-2021 e = observed day 6 19 refl refl (and_right (leb 2021 year) _ e)

  pub us-by-month : contains (get_us_holidays year) n ≡ any_of month (us_rules year n)
  unfolding get_us_holidays
  us-by-month =
      simp (contains-day, contains-if, contains-insert, contains-none)
      (by-month month false (us_rules year n)
      (observed day 1 1 refl refl and independence and observed day 12 25 refl refl and from-2021 and nth day 1 monday (pos 3) and nth day 2 monday (pos 3)
      and nth day 5 monday (minus 1) and nth day 9 monday (pos 1) and nth day 11 thursday (pos 4) and good-friday day and tt))
