-- The answers with a number, of an order and with a day or none, field by field; what one without an error was made from; an order by
-- what the count call returned; a right answer of the call for a common day.
-- Assumes nothing.
use Rattle.std.proofs.Common.{Option, Some, None, Result, Ok, Err}
use Prim.Native.Nat.{ℕ}
use mathlib.Core.Path.{◌≡◌, refl, ap}
use mathlib.Core.List.{List}
use native.Mathlib.Omega.{arith}
use borrow.Author.Tests.{eq-eqb, ne_eqb}
use Rattle.gregorian.specs.declared.Date.{Date}
use Rattle.gregorian.specs.Calendar.{no_date}
use Rattle.ranges.specs.Ranges.{days, find}
use Rattle.ranges.proofs.Search.{finds-some}
use Rattle.error.specs.declared.CalendarError.{CalendarError}
use Rattle.error.specs.declared.CalendarError.TheVariants.{InvalidMarketSet, NoTradingDayInRange, BufferTooSmall}
use Rattle.error.specs.Errors.{error_fields}
use Rattle.error.proofs.ErrorLaws.{error-number}
use Rattle.answers.specs.declared.counts.CountAnswer.{CountAnswer}
use Rattle.error.specs.Errors.{result_and_then}
use Rattle.market_sets.specs.MarketSets.{is_common_trading_day, checked_set_range, found_on}
use Rattle.market_sets.specs.Inner.{first_common_day_result}
use Rattle.orders.specs.Slices.{slice_result, slice_buffer}
use Rattle.answers.specs.declared.optional_dates.OptionalDateAnswer.{OptionalDateAnswer}
use Rattle.answers.specs.Answers.{count_answer, slice_answer, optional_date_answer}
use Rattle.answers.specs.SliceCall.{slice_order_answer, slice_order_buffer}
use Rattle.answers.specs.CommonDayCall.{CommonDayPast, CommonTradingDay}
use Rattle.answers.specs.Expected.{counted, too_small, sliced_over, not_sliced, some_date, none_found, not_searched}

pub counted_is : (n : ℕ) → count_answer (Ok n) ≡ counted n
unfolding count_answer
counted_is n = refl

pub too-small-is : (n : ℕ) → count_answer (Err (BufferTooSmall n)) ≡ too_small n
unfolding count_answer error_fields
too-small-is n = refl

pub was-counted : (r : Result ℕ CalendarError) (n : ℕ) → count_answer r ≡ counted n → r ≡ Ok n
unfolding count_answer
was-counted (Ok k) n e = ap Ok (ap (λ (a : CountAnswer). a.count) e)
was-counted (Err d) n e = absurd (omega (arith, ap (λ (a : CountAnswer). a.error) e, error-number d))

pub all-counted : (r : Result ℕ CalendarError) → (count_answer r).error ≡ 0 → count_answer r ≡ counted (count_answer r).count
unfolding count_answer
all-counted (Ok n) z = refl
all-counted (Err d) z = absurd (omega (arith, z, error-number d))

-- ---- an order

pub sliced-is : (count per_day remainder : ℕ) → slice_answer (Ok (record { count = count; per_day = per_day; remainder = remainder })) ≡ sliced_over count per_day remainder
unfolding slice_answer
sliced-is count per_day remainder = refl

pub no-day-is : slice_answer (Err NoTradingDayInRange) ≡ not_sliced 11 0 no_date
unfolding slice_answer error_fields
no-day-is = refl

pub too-few-entries-is : (n : ℕ) → slice_answer (Err (BufferTooSmall n)) ≡ not_sliced 9 n no_date
unfolding slice_answer error_fields
too-few-entries-is n = refl

-- the number of an error is never 0
pub is-error : (e : CalendarError) → (slice_answer (Err e)).error ≡ 0 → ⊥
unfolding slice_answer
is-error e z = omega (arith, z, error-number e)

-- The call, by what the count call returned: an error, or the number of days.
module _ (quantity : ℕ) (counted : CountAnswer) (buffer : List ℕ) where
  pub not-counted : (counted.error ≡ 0 → ⊥) → (slice_order_answer quantity counted buffer ≡ not_sliced counted.error counted.count counted.date) × (slice_order_buffer quantity counted buffer ≡ buffer)
  unfolding slice_order_answer slice_order_buffer
  not-counted n = let e = ne_eqb counted.error 0 n in (simp e, simp e)

  pub days-counted : counted.error ≡ 0 → (slice_order_answer quantity counted buffer ≡ slice_answer (slice_result quantity counted.count buffer)) × (slice_order_buffer quantity counted buffer ≡ slice_buffer quantity counted.count buffer)
  unfolding slice_order_answer slice_order_buffer
  days-counted z = let e = eq-eqb counted.error 0 z in (simp e, simp e)

-- ---- a day or none

pub some-date-is : (t : Date) → optional_date_answer (Ok (Some t)) ≡ some_date t
unfolding optional_date_answer
some-date-is t = refl

pub none-found-is : optional_date_answer (Ok None) ≡ none_found
unfolding optional_date_answer
none-found-is = refl

pub no-set-is : optional_date_answer (Err InvalidMarketSet) ≡ not_searched 12 no_date
unfolding optional_date_answer error_fields
no-set-is = refl

-- an error of the dates, as the count call returns it
pub as-counted : (e : CalendarError) → optional_date_answer (Err e) ≡ not_searched (count_answer (Err e)).error (count_answer (Err e)).date
unfolding optional_date_answer count_answer
as-counted e = refl

pub is-search-error : (e : CalendarError) → (optional_date_answer (Err e)).error ≡ 0 → ⊥
unfolding optional_date_answer
is-search-error e z = omega (arith, z, error-number e)

pub no-search-error : (day : Option ℕ) → (optional_date_answer (found_on day)).error ≡ 0
unfolding optional_date_answer
no-search-error (Some n) = refl
no-search-error None = refl

-- The first day of the range on which every market of the set trades is a right answer.
module _ (markets : ℕ) (start end : Date) (r : OptionalDateAnswer) where
  pub first-is-right : r ≡ optional_date_answer (first_common_day_result markets start end) → CommonTradingDay markets start end r
  first-is-right q = by (checked_set_range markets start end) q
    where
      by : (c : Result (ℕ × ℕ) CalendarError) → r ≡ optional_date_answer (result_and_then c (λ (a, b). found_on (find (is_common_trading_day markets) (days a b))))
          → CommonDayPast markets c r
      by (Ok (a, b)) p = (find (is_common_trading_day markets) (days a b), finds-some (is_common_trading_day markets) a b, p)
      by (Err e) p = p
