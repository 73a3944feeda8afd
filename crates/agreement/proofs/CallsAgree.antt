-- The calls agree on every date range of 2020 to 2030.
-- Assumes nothing.
use Prim.Native.Nat.{ℕ, suc, ◌-◌, ◌≤◌}
use mathlib.Core.Path.{◌≡◌, sym, ap, ◌∙◌, subst, subst₂}
use mathlib.Core.Bool.{Bool, true}
use mathlib.Core.List.{List, map, reverse}
use lib.Dec.{leb}
use lib.ListN.{length, length-map}
use native.Mathlib.Omega.{arith}
use Rattle.gregorian.specs.declared.Date.{Date}
use Rattle.gregorian.specs.Calendar.{month_length, day_number, is_date_of, number, day_after, date_of, day_before}
use Rattle.gregorian.specs.Inner.{IsDate}
use Rattle.gregorian.proofs.Laws.{is-date, date-by, month-low, date-of-number, number-range}
use Rattle.markets.specs.Markets.{is_market, is_trading_day}
use Rattle.markets.specs.Years.{min_day, max_day, first_day_of, last_day_of}
use Rattle.markets.proofs.YearLaws.{supported-years}
use Rattle.ranges.specs.Ranges.{Every, trading_days, count_trading_days, joined}
use Rattle.ranges.specs.Steps.{NextStep, PreviousStep}
use Rattle.ranges.specs.Agreement.{Agreement, Tile, list_of}
use Rattle.ranges.specs.Traversals.{Traversal}
use Rattle.ranges.proofs.Lists.{map-reverse}
use Rattle.ranges.proofs.Items.{every-each, every-trading-day}
use Rattle.ranges.proofs.Months.{joined-days}
use Rattle.market_runs.specs.MarketAgreement.{longest_run}
use Rattle.market_runs.proofs.MarketAgreement.{bounds, markets-agree}
use Rattle.answers.specs.Expected.{counted}
use Rattle.agreement.specs.CallsAgree.{IsRange, trading_dates, next_call, previous_call, Next, Previous, Month, month_number, months_from, months_of, limit_to_range, MonthLists, SplitDates, PartCounts, CallsAgree, AllCallsAgree}
use Rattle.agreement.proofs.Dates.{number-from, number-to, ascending, months-ordered}
use Rattle.agreement.proofs.NeighbourCalls.{IsDay, as-dates, outside-as-dates, next-answer, previous-answer, only-list, returned}
use Rattle.agreement.proofs.MonthCalls.{MonthsInYears, month_range, listed, later-in-month, number-from-day, tile, all_read, joined-dates, are-dates, limited-dates}
use Rattle.agreement.proofs.CountCalls.{splits_of, count-answers, empty-part, part-counts}

module _ (market : ℕ) (first last : Date) (known : is_market market ≡ true) (range : IsRange first last) where
  abbrev trades : ℕ → Bool
  trades = is_trading_day market

  abbrev a : ℕ
  a = number first

  abbrev b : ℕ
  b = number last

  first-is : IsDate first.year first.month first.day
  first-is = is-date first.year first.month first.day range.first-date

  last-is : IsDate last.year last.month last.day
  last-is = is-date last.year last.month last.day range.last-date

  first-low : min_day ≤ a
  first-low = number-from first range.first-date (supported-years first.year range.first-year).0

  last-high : b ≤ max_day
  last-high = number-to last range.last-date (supported-years last.year range.last-year).1

  on-days : Agreement trades longest_run (first_day_of market) (last_day_of market) a b
  on-days = markets-agree market a b known first-low range.ordered last-high

  on-forward : Traversal (Next market) (λ t. leb (number t) b) (day_before first) (trading_dates market first last)
  on-forward =
      as-dates (NextStep trades longest_run (last_day_of market)) (Next market) (λ m. leb m b) (next-answer market known longest_run) _ _
      (outside-as-dates (NextStep trades longest_run (last_day_of market)) (Next market) (λ m. leb m b) (next-answer market known longest_run))
      (a - 1) (trading_days trades a b) (omega (arith, bounds, first-low), omega (arith, bounds, range.ordered, last-high)) on-days.forward

  on-backward : Traversal (Previous market) (λ t. leb a (number t)) (day_after last) (reverse (trading_dates market first last))
  unfolding date_of
  on-backward =
      subst₂ (Traversal (Previous market) (λ t. leb a (number t))) (ap day_after (date-of-number last last-is.exists)) (map-reverse date_of (trading_days trades a b))
      (as-dates (PreviousStep trades longest_run (first_day_of market)) (Previous market) (λ m. leb a m) (previous-answer market known longest_run) _ _
      (outside-as-dates (PreviousStep trades longest_run (first_day_of market)) (Previous market) (λ m. leb a m) (previous-answer market known longest_run))
      (suc b) (reverse (trading_days trades a b)) (omega arith, omega (arith, bounds, last-high)) on-days.backward)

  -- ---- the months

  -- how many months the last date's is after the first date's
  abbrev later : ℕ
  later = month_number last.year last.month - month_number first.year first.month

  month-count : suc (month_number last.year last.month) - month_number first.year first.month ≡ suc later
  month-count = omega (arith, months-ordered first last first-is.exists last-is.exists range.ordered)

  -- from the first day of the first month to the last day of the last
  abbrev from : ℕ
  from = day_number first.year first.month 1

  abbrev to : ℕ
  to = day_number last.year last.month (month_length last.year last.month)

  tiled : Tile from (map month_range (months_of first last)) to
  tiled =
      let f = first-is.exists in
      let l = last-is.exists in
      subst (λ (k : ℕ). Tile from (map month_range (months_from first.year first.month k)) to) (sym month-count)
      (tile later first.year first.month last.year last.month f.y-low f.m-low f.m-high l.m-low l.m-high last-is.y-high
      (omega (arith, months-ordered first last f l range.ordered)))

  in-years : MonthsInYears first.year first.month (suc (month_number last.year last.month) - month_number first.year first.month)
  in-years =
      let f = first-is.exists in
      let l = last-is.exists in
      let p = supported-years first.year range.first-year in
      let q = supported-years last.year range.last-year in
      (omega (arith, f.m-low, p), omega (arith, l.m-high, q, months-ordered first last f l range.ordered))

  -- the trading days of these months, and that they are days of years 1 to 9999
  abbrev in-months : List ℕ
  in-months = joined (list_of trades) (map month_range (months_of first last))

  all-days : Every IsDay in-months
  all-days =
      let l = last-is.exists in
      let long = month-low last.year last.month l.m-low l.m-high in
      let end = number-range last.year last.month _
      (date-by last.year last.month (month_length last.year last.month) (l.y-low, last-is.y-high) (l.m-low, l.m-high) (omega arith, omega arith)) in
      let one = number-from-day first.year first.month 1 in
      subst (Every IsDay) (sym (joined-days trades from (map month_range (months_of first last)) to tiled))
      (every-trading-day IsDay trades from to (λ i x y. (omega arith, omega (arith, end))))

  on-months : (buffer : Month → List ℕ) → MonthLists market first last buffer
  on-months buffer =
      let f = first-is.exists in
      let l = last-is.exists in
      let joins = joined-dates market known _ first.year first.month f.m-low f.m-high in-years in (
        listed market,
        all_read market known buffer _ first.year first.month f.m-low f.m-high in-years,
        subst (Every (λ t. is_date_of t ≡ true)) (sym joins) (are-dates in-months all-days),
        ap (limit_to_range first last) joins
            ∙ limited-dates first last in-months (every-each _ _ (λ n h. h.0) in-months all-days)
            ∙ ap (map date_of) (on-days.months from to (map month_range (months_of first last)) tiled (later-in-month first.year first.month 1 first.day f.d-low) (later-in-month last.year last.month last.day _ l.d-high)),
      )

  -- ---- all of it

  on-length : count_trading_days trades a b ≡ length (trading_dates market first last)
  on-length = on-days.count ∙ sym (length-map (trading_days trades a b) date_of)

  on-parts : (splits : List Date) → SplitDates first splits last → PartCounts market first splits last
  on-parts splits s =
      let counts = part-counts market known first splits last range.first-date first-low range.last-date last-high s in
      (counts.0, counts.1, counts.2 ∙ on-days.parts-add-up (map number splits) (splits_of first splits last s) ∙ on-length)

  agrees : CallsAgree market first last
  agrees =
      record {
        ascending = ascending trades (suc b - a) a (omega (arith, bounds, first-low));
        forward = on-forward;
        forward-only = only-list (Next market) (next_call market) _ _ _ (λ s t c. returned market _ (next_call market) s t _ _ c) on-forward;
        backward = on-backward;
        backward-only = only-list (Previous market) (previous_call market) _ _ _ (λ s t c. returned market _ (previous_call market) s t _ _ c) on-backward;
        months = on-months;
        count = count-answers market known first last range.first-date range.last-date first-low last-high ∙ ap counted on-length;
        parts = on-parts;
        empty-part = λ split d l u. empty-part market known split d (omega (arith, first-low)) (omega (arith, last-high));
      }

pub calls-agree : AllCallsAgree
calls-agree = agrees
