-- Holidays, trading days, the next of them and dates in forms that can be computed, each with the proof that it is the definition.
-- Assumes nothing.
use Rattle.std.proofs.Common.{Option, Some, None, Result, Ok}
use Prim.Native.Nat.{ℕ, suc, ◌+◌, ◌-◌, ◌≤◌, min}
use mathlib.Core.Path.{◌≡◌, refl, sym, ap, ◌∙◌}
use mathlib.Core.Bool.{Bool, true, false, cond, not, ◌&&◌, ◌||◌}
use mathlib.Core.List.{List, [], ◌∷◌, ◌++◌}
use lib.Dec.{ltb, leb, eqb}
use native.Mathlib.Omega.{arith}
use borrow.Author.Tests.{ltb-true, leb-true, eqb-true}
use Rattle.gregorian.specs.declared.Date.{Date}
use Rattle.gregorian.specs.Calendar.{total, year_length, last_year, is_date_of, number, date_of}
use Rattle.gregorian.proofs.Tests.{and_left, and_right}
use Rattle.gregorian.proofs.Laws.{is-date, date-of-number}
use Rattle.rule_days.specs.Days.{contains}
use Rattle.markets.specs.Markets.{holidays, is_weekend, is_holiday, is_trading_day}
use Rattle.markets.specs.Years.{is_supported, last_day_of}
use Rattle.ranges.specs.Ranges.{days_from, found, find, next_trading_day}
use Rattle.ranges.proofs.Lists.{from-split}
use Rattle.market_runs.specs.MarketAgreement.{longest_run}
use Rattle.market_runs.proofs.ClosedForms.{closed_holidays, closed-holidays}
use Rattle.market_runs.proofs.YearFlags.{before, in-year}
use Rattle.range_calls.specs.RangeCalls.{distance_of, trading_day, trading_day_result}
use Rattle.answers.specs.declared.OptionalDate.{OptionalDate}
use Rattle.answers.specs.Answers.{optional_date}
use Rattle.error.specs.declared.CalendarError.{CalendarError}
use Rattle.range_calls.specs.declared.TradingDay.{TradingDay}

-- ---- holidays and trading days

abbrev is_between : ℕ → ℕ → ℕ → Bool
is_between low high n = ltb low n && leb n high

-- Whether day n is a holiday: by the list of a year on its days, those after day `low` up to day `high`, and else by the definition.
unfoldable pub by_list : ℕ → ℕ → ℕ → List ℕ → ℕ → Bool
by_list market low high ds n = cond (is_between low high n) (contains ds n) (is_holiday market n)

pub by-list : (market y n : ℕ) (l : 1 ≤ y) (h : y ≤ last_year) → is_holiday market n ≡ by_list market (before y) (total year_length y) (closed_holidays market y l h) n
unfolding by_list is_holiday
by-list market y n l h = by-test (is_between (before y) (total year_length y) n) refl
  where
    by-test : (t : Bool) → is_between (before y) (total year_length y) n ≡ t → is_holiday market n ≡ cond t (contains (closed_holidays market y l h) n) (is_holiday market n)
    by-test true e =
        let low = ltb-true (before y) n (and_left (ltb (before y) n) _ e) in
        let high = leb-true n (total year_length y) (and_right (ltb (before y) n) _ e) in
        ap (λ (ds : List ℕ). contains ds n) (ap (holidays market) (in-year n y l h low high) ∙ closed-holidays market y l h)
    by-test false e = refl

-- the rule of a market, by the list of the year y if that is a year of the calendar
unfoldable pub holiday_rule : (market y : ℕ) → (rule : ℕ → Bool) × (is_holiday market ≡ rule)
unfolding closed_holidays by_list
holiday_rule market y = by-test (leb 1 y && leb y last_year) refl
  where
    by-test : (t : Bool) → (leb 1 y && leb y last_year) ≡ t → (rule : ℕ → Bool) × (is_holiday market ≡ rule)
    by-test true e =
        let l = leb-true 1 y (and_left (leb 1 y) _ e) in
        let h = leb-true y last_year (and_right (leb 1 y) _ e) in
        (by_list market (before y) (total year_length y) (closed_holidays market y l h), λ j n. by-list market y n l h j)
    by-test false e = (is_holiday market, refl)

unfoldable pub trading_rule : (market y : ℕ) → (rule : ℕ → Bool) × (is_trading_day market ≡ rule)
unfolding holiday_rule is_trading_day
trading_rule market y =
    (_, ap {B = ℕ → Bool} (λ (rule : ℕ → Bool) (n : ℕ). not (rule n) && not (is_weekend n)) (holiday_rule market y).1)

-- ---- dates

-- the date of day n: t, if t is a date with this number
unfoldable pub closed_date : (t : Date) (n : ℕ) → (u : Date) × (date_of n ≡ u)
closed_date t n =
    by-test (is_date_of t && eqb (number t) n) refl
  where
    by-test : (b : Bool) → (is_date_of t && eqb (number t) n) ≡ b → (u : Date) × (date_of n ≡ u)
    by-test true e =
        let exists = (is-date t.year t.month t.day (and_left (is_date_of t) _ e)).exists in
        (t, ap date_of (sym (eqb-true (number t) n (and_right (is_date_of t) _ e))) ∙ date-of-number t exists)
    by-test false e = (date_of n, refl)

-- the answers that have the date of a day
unfoldable pub closed_optional : (t : Date) (o : Option ℕ) → (a : OptionalDate) × (optional_date o ≡ a)
unfolding closed_date optional_date
closed_optional t (Some n) = (_, ap (λ (u : Date). record { found = 1; date = u }) (closed_date t n).1)
closed_optional t None = (_, refl)

unfoldable pub closed_neighbour : (t : Date) (year n : ℕ) (o : Option ℕ) → (r : Result TradingDay CalendarError) × (trading_day_result year n o ≡ r)
unfolding closed_date trading_day_result trading_day
closed_neighbour t year n (Some m) =
    let mark : ℕ → Bool = λ y. not (is_supported year) || not (is_supported y) in
    (_, ap (λ (u : Date). Ok (record { date = u; distance = distance_of n m; outside = mark u.year })) (closed_date t m).1)
closed_neighbour t year n None = (_, refl)

-- ---- the next trading day

-- what the first search found, or else the second
abbrev pub or_else : Option ℕ → Option ℕ → Option ℕ
or_else (Some n) later = Some n
or_else None later = later

module _ (trades : ℕ → Bool) where
  find-append : (l r : List ℕ) → find trades (l ++ r) ≡ or_else (find trades l) (find trades r)
  unfolding find
  find-append [] r = refl
  find-append (n ∷ l) r = ap (found (trades n) n) (find-append l r) ∙ by-test (trades n)
    where
      by-test : (t : Bool) → found t n (or_else (find trades l) (find trades r)) ≡ or_else (found t n (find trades l)) (find trades r)
      by-test true = refl
      by-test false = refl

  -- a search among k days: the first i of them, and then the others
  pub find-early : (i k a : ℕ) → find trades (days_from a k) ≡ or_else (find trades (days_from a (min i k))) (find trades (days_from (a + min i k) (k - min i k)))
  find-early i k a =
      let both : k ≡ min i k + (k - min i k) = omega arith in
      ap (λ (j : ℕ). find trades (days_from a j)) both
      ∙ ap (find trades) (from-split (min i k) (k - min i k) a)
      ∙ find-append (days_from a (min i k)) (days_from (a + min i k) (k - min i k))

-- The search of as many days as a run may have, and one more; and its answer, where t is the date that is expected.
unfoldable pub closed_next : (market y n : ℕ) → (o : Option ℕ) × (next_trading_day (is_trading_day market) (last_day_of market) n ≡ o)
unfolding trading_rule find days_from
closed_next market y n =
    let rule = trading_rule market y in
    (_, ap (λ (trades : ℕ → Bool). next_trading_day trades (last_day_of market) n) rule.1 ∙ find-early rule.0 (suc longest_run) (suc (last_day_of market) - suc n) (suc n))

unfoldable pub closed_next_result : (market y : ℕ) (t : Date) (n : ℕ) → (r : Result TradingDay CalendarError) × (trading_day_result y n (next_trading_day (is_trading_day market) (last_day_of market) n) ≡ r)
unfolding closed_next closed_neighbour
closed_next_result market y t n =
    let next = closed_next market y n in
    (_, ap (trading_day_result y n) next.1 ∙ (closed_neighbour t y n next.0).1)
