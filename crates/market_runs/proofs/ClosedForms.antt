-- The holidays of a market in a year, in a form that can be computed.
-- Assumes nothing.
use Rattle.std.proofs.Common.{Some}
use Prim.Native.Nat.{ℕ, zero, suc, ◌≤◌}
use mathlib.Core.Path.{◌≡◌, refl}
use mathlib.Core.Bool.{Bool, true, ◌&&◌}
use mathlib.Core.List.{List, []}
use lib.Dec.{leb}
use lib.ListN.{get_or}
use borrow.Author.Tests.{leb-true}
use Rattle.gregorian.specs.Calendar.{leap, leap_day, year_length, month_length, total, last_year, is_date, day_number, weekday_of}
use Rattle.gregorian.proofs.Tests.{and_left, and_right}
use Rattle.utils.specs.Weekday.{first_from, target_day, nth_from_start, first_of_next, last_up_to, last_weekday_of_month}
use Rattle.utils.specs.Easter.{moon_days, easter, calculate_easter, calculate_good_friday, calculate_easter_monday}
use Rattle.utils.proofs.WeekdayLaws.{nth-early, nth_last}
use Rattle.rule_days.specs.Days.{contains, insert, insert_if, insert_day, match_weekend}
use Rattle.rule_days.specs.Inner.{every_year_has}
use Rattle.rule_days.proofs.DayLaws.{every-year-date}
use Rattle.japan.specs.Japan.{substitute_day, add_with_substitute, add_day_with_substitute, equinox, apply_golden_week_rules, get_japan_holidays}
use Rattle.markets.specs.Us.{get_us_holidays}
use Rattle.markets.specs.Uk.{add_boxing_day, get_uk_holidays}
use Rattle.markets.specs.Canada.{boxing_day, get_canada_holidays}
use Rattle.markets.specs.Markets.{holidays_by_code, holidays, is_weekend}

-- a month, a weekday, and a number of it up to 4: every year has such a day
abbrev is_early : ℕ → ℕ → ℕ → Bool
is_early m w n = every_year_has m 1 && leb w 6 && leb 1 n && leb n 4

-- The nth weekday compares the month of a date, which cannot be computed; the first four and the last one need no comparison.
pub early : (y m w n : ℕ) → 1 ≤ y → y ≤ last_year → is_early m w n ≡ true → nth_from_start y m w n ≡ Some (target_day y m w n)
early y m w n l h e₄ =
    let t₂ = every_year_has m 1 && leb w 6 in
    let t₃ = t₂ && leb 1 n in
    let e₃ = and_left t₃ _ e₄ in
    let e₂ = and_left t₂ _ e₃ in
    nth-early y m w n (every-year-date y m 1 (l, h, and_left (every_year_has m 1) _ e₂)) (leb-true w 6 (and_right (every_year_has m 1) _ e₂))
    (leb-true 1 n (and_right t₂ _ e₃)) (leb-true n 4 (and_right t₃ _ e₄))

pub by_code : (market y : ℕ) → holidays market y ≡ get_or holidays_by_code market (λ year. []) y
unfolding holidays
by_code market y = refl

-- The list that the definition comes to with `early` and `nth_last` everywhere.
unfoldable pub closed_form : (market y : ℕ) → 1 ≤ y → y ≤ last_year → (ds : List ℕ) × (holidays market y ≡ ds)
unfolding get_us_holidays get_uk_holidays get_canada_holidays get_japan_holidays
closed_form zero y l h = (_, simp (early y, nth_last y) at (by_code 0 y))
closed_form (suc zero) y l h = (_, simp (early y, nth_last y) at (by_code 1 y))
closed_form (suc (suc zero)) y l h = (_, simp (early y, nth_last y) at (by_code 2 y))
closed_form (suc (suc (suc zero))) y l h = (_, simp (early y, nth_last y) at (by_code 3 y))
closed_form (suc (suc (suc (suc zero)))) y l h = (_, simp (early y, nth_last y) at (by_code 4 y))
closed_form (suc (suc (suc (suc (suc market))))) y l h = (_, refl)

-- The list by itself. To unfold it is to unfold all that it takes to compute it, and whether a day of the year trades.
unfoldable pub closed_holidays : (market y : ℕ) → 1 ≤ y → y ≤ last_year → List ℕ
unfolding closed_form is_weekend contains insert insert_if insert_day match_weekend leap leap_day year_length month_length total is_date day_number weekday_of first_from target_day last_up_to first_of_next last_weekday_of_month moon_days easter calculate_easter calculate_good_friday calculate_easter_monday substitute_day add_with_substitute add_day_with_substitute equinox apply_golden_week_rules add_boxing_day boxing_day
closed_holidays market y l h = (closed_form market y l h).0

pub closed-holidays : (market y : ℕ) (l : 1 ≤ y) (h : y ≤ last_year) → holidays market y ≡ closed_holidays market y l h
unfolding closed_holidays
closed-holidays market y l h = (closed_form market y l h).1
