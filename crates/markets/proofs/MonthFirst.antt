-- [month-first]: the rules that can fall in the month of a day answer as membership in the whole year's holidays, for every code and all
-- years 1 to 9999.
-- Assumes nothing.
use Prim.Native.Nat.{ℕ, ◌≤◌, ◌<◌}
use mathlib.Core.Path.{◌≡◌, ap, sym, ◌∙◌}
use mathlib.Core.List.{List, []}
use lib.ListN.{length, get_or-eq_default}
use native.Mathlib.Omega.{arith}
use native.Mathlib.Decide.{dec_lt}
use Rattle.gregorian.specs.declared.Date.{Date}
use Rattle.gregorian.specs.declared.days.CalendarDay.{CalendarDay}
use Rattle.gregorian.proofs.Total.{upto}
use Rattle.rule_days.specs.Days.{contains}
use Rattle.rule_days.specs.Inner.{any_of}
use Rattle.rule_days.proofs.DayLaws.{contains-none}
use Rattle.japan.proofs.JapanLaws.{japan-by-month}
use Rattle.markets.specs.Markets.{holidays_by_code, holidays, is_holiday}
use Rattle.markets.specs.Inner.{rules}
use Rattle.markets.proofs.MarketLaws.{no-market}
use Rattle.markets.proofs.UsLaws.{us-by-month}
use Rattle.markets.proofs.UkLaws.{uk-by-month}
use Rattle.markets.proofs.CanadaLaws.{canada-by-month}

module _ (day : CalendarDay) where
  abbrev n : ℕ
  n = day.number

  abbrev y : ℕ
  y = day.date.year

  abbrev Same : ℕ → Type 0
  Same market = any_of day.date.month (rules market y n) ≡ contains (holidays market y) n

  -- the codes of the list
  of-market : (market : ℕ) → market < length holidays_by_code → Same market
  unfolding holidays
  of-market =
      let us = sym (us-by-month day) in
      upto Same (length holidays_by_code) (((((tt, us), us), sym (uk-by-month day)), sym (japan-by-month day)), sym (canada-by-month day))

  -- any other
  of_none : (market : ℕ) → length holidays_by_code ≤ market → Same market
  unfolding holidays
  of_none market k =
      sym
      (ap (λ (f : ℕ → List ℕ). contains (f y) n) (get_or-eq_default holidays_by_code (λ year. []) {n = market} k)
      ∙ contains-none n
      ∙ no-market market day.date.month y n k)

pub month-first : (market : ℕ) (day : CalendarDay) → any_of day.date.month (rules market day.date.year day.number) ≡ is_holiday market day.number
unfolding is_holiday
month-first market day =
    by_code ∙ ap (λ (t : Date). contains (holidays market t.year) day.number) day.same
  where
    by_code : any_of day.date.month (rules market day.date.year day.number) ≡ contains (holidays market day.date.year) day.number
    by_code = elim (dec_lt market (length holidays_by_code)) [
      | yes k ↦ of-market day market k
      | no k ↦ of_none day market (omega arith)
    ]
