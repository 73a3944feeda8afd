-- The claim of specs/WholeYear.antt: the year of a day number is that of its date, and a code that is no market's has no holidays.
-- Assumes nothing.
use Rattle.std.proofs.Common.{Some, None}
use Prim.Native.Nat.{ℕ}
use mathlib.Core.Path.{◌≡◌, refl, ap, sym, ◌∙◌}
use mathlib.Core.Bool.{Bool, true, false, cond, ◌&&◌}
use mathlib.Core.List.{List, []}
use lib.ListN.{length, get_or-eq_default}
use borrow.Author.Tests.{ltb-false}
use Rattle.gregorian.specs.Calendar.{is_date, day_number}
use Rattle.gregorian.proofs.Laws.{year-of-number}
use Rattle.rule_days.specs.Days.{contains}
use Rattle.rule_days.proofs.DayLaws.{contains-none}
use Rattle.markets.specs.Markets.{holidays_by_code, is_market, holidays, is_holiday}
use Rattle.all_years.specs.AllYears.{known_day, day_answer}
use Rattle.all_years.specs.WholeYear.{WholeYear}

of_none : (market y n : ℕ) → is_market market ≡ false → false ≡ contains (holidays market y) n
unfolding is_market holidays
of_none market y n e =
    sym (ap (λ (f : ℕ → List ℕ). contains (f y) n) (get_or-eq_default holidays_by_code (λ year. []) {n = market} (ltb-false market (length holidays_by_code) e)) ∙ contains-none n)

pub whole-year : WholeYear
unfolding known_day is_holiday
whole-year market y m d is = by (is_market market) refl
  where
    by : (b : Bool) → is_market market ≡ b → (day_answer market (cond (is_market market && is_date y m d) (Some (day_number y m d)) None)).holiday ≡ contains (holidays market y) (day_number y m d)
    by true e = simp (e, is) (ap (λ (i : ℕ). contains (holidays market i) (day_number y m d)) (sym (year-of-number y m d is)))
    by false e = simp e (of_none market y (day_number y m d) e)
