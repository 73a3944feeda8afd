-- The count of a range and of its parts by the calls: those of the day numbers.
-- Assumes nothing.
use Prim.Native.Nat.{ℕ, suc, ◌+◌, ◌-◌, ◌≤◌}
use mathlib.Core.Path.{◌≡◌, refl, ap, ap₂, ◌∙◌}
use mathlib.Core.Bool.{true}
use mathlib.Core.List.{List, [], ◌∷◌, map}
use native.Mathlib.Omega.{arith}
use Rattle.gregorian.specs.declared.Date.{Date}
use Rattle.gregorian.specs.Calendar.{is_date_of, number, day_before}
use Rattle.gregorian.proofs.Laws.{number-of-date, date-of-is}
use Rattle.markets.specs.Markets.{is_market, is_trading_day}
use Rattle.markets.specs.Years.{min_day, max_day}
use Rattle.ranges.specs.Ranges.{count_trading_days, sum_of}
use Rattle.ranges.specs.Agreement.{parts, Splits, count_of}
use Rattle.ranges.proofs.Counts.{count_none, splits-order}
use Rattle.market_runs.proofs.MarketAgreement.{bounds}
use Rattle.range_calls.proofs.CountLaws.{count-of-dates}
use Rattle.answers.specs.declared.counts.CountAnswer.{CountAnswer}
use Rattle.answers.specs.Answers.{count_answer}
use Rattle.answers.specs.Expected.{counted}
use Rattle.answers.proofs.AnswerLaws.{counted_is}
use Rattle.agreement.specs.CallsAgree.{count_call, parts_of, SplitDates}
use Rattle.agreement.proofs.Dates.{year-from, year-to}

-- The split dates as day numbers.
pub splits_of : (first : Date) (splits : List Date) (last : Date) → SplitDates first splits last → Splits (number first) (map number splits) (number last)
splits_of first [] last s = s
splits_of first (split ∷ splits) last s = (s.1, splits_of split splits last s.2)

-- The day before a date of the range or of the day after it.
module _ (t : Date) (l : min_day ≤ number t) (h : number t ≤ suc max_day) where
  number-of-day-before : number (day_before t) ≡ number t - 1
  number-of-day-before = number-of-date (number t - 1) (omega (arith, bounds))

  day-before-is-date : is_date_of (day_before t) ≡ true
  day-before-is-date = date-of-is (number t - 1) (omega (arith, bounds)) (omega (arith, bounds))

module _ (market : ℕ) (known : is_market market ≡ true) where
  -- The call gives no error where the start is not before the supported years and the end not after them.
  pub count-answers : (start end : Date) → is_date_of start ≡ true → is_date_of end ≡ true → min_day ≤ number start → number end ≤ max_day
      → count_call market start end ≡ counted (count_trading_days (is_trading_day market) (number start) (number end))
  count-answers start end p q l u =
      ap count_answer (count-of-dates market start.year start.month start.day end.year end.month end.day known p q (year-from start p l) (year-to end q u))
      ∙ counted_is (count_trading_days (is_trading_day market) (number start) (number end))

  pub empty-part : (split : Date) → is_date_of split ≡ true → min_day ≤ number split → number split ≤ suc max_day → count_call market split (day_before split) ≡ counted 0
  empty-part split p l u =
      let e = number-of-day-before split l u in
      count-answers split (day_before split) p (day-before-is-date split l u) l (omega (arith, e))
      ∙ ap counted (count_none (is_trading_day market) (number split) (number (day_before split)) (omega (arith, bounds, e)))

  -- The calls on the parts answer the counts of the parts, and these add up as on day numbers.
  pub part-counts : (first : Date) (splits : List Date) (last : Date) → is_date_of first ≡ true → min_day ≤ number first → is_date_of last ≡ true → number last ≤ max_day → SplitDates first splits last
      → (counts : List ℕ) × (map (λ p. count_call market p.start p.end) (parts_of first splits last) ≡ map counted counts)
      × (sum_of (λ n. n) counts ≡ sum_of (count_of (is_trading_day market)) (parts (number first) (map number splits) (number last)))
  part-counts first [] last p l q u s =
      (count_trading_days (is_trading_day market) (number first) (number last) ∷ [], ap (λ (a : CountAnswer). a ∷ []) (count-answers first last p q l u), refl)
  part-counts first (split ∷ splits) last p l q u s =
      let order = splits-order (number split) (map number splits) (number last) (splits_of split splits last s.2) in
      let from : min_day ≤ number split = omega (arith, s.1) in
      let to : number split ≤ suc max_day = omega (arith, order) in
      let e = number-of-day-before split from to in
      let rest = part-counts split splits last s.0 from q u s.2 in (
        count_trading_days (is_trading_day market) (number first) (number (day_before split)) ∷ rest.0,
        ap₂ (λ (a : CountAnswer) (r : List CountAnswer). a ∷ r) (count-answers first (day_before split) p (day-before-is-date split from to) l (omega (arith, e))) rest.1,
        ap₂ (λ (i j : ℕ). count_trading_days (is_trading_day market) (number first) i + j) e rest.2,
      )
