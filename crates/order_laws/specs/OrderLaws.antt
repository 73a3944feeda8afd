-- One claim about the call that slices an order, and the count call: docs/SCOPE.md [slice-laws]. The answers are the structs that the
-- exported calls return, by the definitions that their contracts cite. Assumes nothing.
use Rattle.std.specs.Prelude.{ℕ, ◌+◌, ◌*◌, ◌≤◌, ◌<◌, ◌≡◌, true, List, length, get_or, take, drop}
use Rattle.gregorian.specs.declared.Date.{Date}
use Rattle.gregorian.specs.Calendar.{no_date, is_date_of, number}
use Rattle.markets.specs.Markets.{is_market}
use Rattle.markets.specs.Years.{min_year, max_year}
use Rattle.ranges.specs.Ranges.{sum_of}
use Rattle.answers.specs.declared.counts.CountAnswer.{CountAnswer}
use Rattle.answers.specs.declared.slices.SliceAnswer.{SliceAnswer}
use Rattle.answers.specs.SliceCall.{slice_order_answer, slice_order_buffer}
use Rattle.answers.specs.Expected.{counted, sliced_over, not_sliced}
use Rattle.agreement.specs.CallsAgree.{count_call}

-- ---- one order

-- over the days of a market from one date to another
pub record Order : Type 0 where
  pub market : ℕ
  pub quantity : ℕ
  pub start : Date
  pub end : Date

-- what the count call returns on its market and dates
abbrev pub count_of : Order → CountAnswer
count_of o = count_call o.market o.start o.end

-- what the call returns that slices the order, and the buffer after it
abbrev pub slice_call : Order → List ℕ → SliceAnswer
slice_call o buffer = slice_order_answer o.quantity (count_of o) buffer

abbrev pub buffer_after : Order → List ℕ → List ℕ
buffer_after o buffer = slice_order_buffer o.quantity (count_of o) buffer

-- ---- the claim

-- The call returned these numbers, and `after` is the buffer after it.
pub record Sliced (o : Order) (count per_day remainder : ℕ) (buffer after : List ℕ) : Type 0 where
  -- the days are those that the count call counts, one at least
  pub count-is : count_of o ≡ counted count
  pub one-day : 1 ≤ count
  -- shares per day times days plus remainder is the order; the remainder is less than a share for each day
  pub whole-order : per_day * count + remainder ≡ o.quantity
  pub remainder-less : remainder < count
  -- an entry for each day: they add up to the order
  pub room : count ≤ length buffer
  pub sum_is : sum_of (λ n. n) (take count after) ≡ o.quantity
  -- they never grow, and differ by at most one
  pub never-grow : (i j : ℕ) → i ≤ j → j < count → get_or after j 0 ≤ get_or after i 0
  pub at_most_one : (i j : ℕ) → i < count → j < count → get_or after i 0 ≤ get_or after j 0 + 1
  -- the first days carry one share more until the remainder is spent
  pub first-days : (i : ℕ) → i < remainder → get_or after i 0 ≡ per_day + 1
  pub other-days : (i : ℕ) → remainder ≤ i → i < count → get_or after i 0 ≡ per_day
  -- entries past the count keep their values
  pub rest-stays : drop count after ≡ drop count buffer
  pub length-stays : length after ≡ length buffer

-- The call returned some numbers, without an error; they and the buffer after it are as above.
abbrev pub IsSliced : Order → List ℕ → Type 0
IsSliced o buffer =
    (count per_day remainder : ℕ) × (slice_call o buffer ≡ sliced_over count per_day remainder) × Sliced o count per_day remainder buffer (buffer_after o buffer)

-- for every order and buffer
pub record AllOrderLaws : Type 0 where
  -- Without an error the order is sliced.
  pub sliced : (o : Order) (buffer : List ℕ) → (slice_call o buffer).error ≡ 0 → IsSliced o buffer
  -- With one, all entries keep their values.
  pub unchanged : (o : Order) (buffer : List ℕ) → ((slice_call o buffer).error ≡ 0 → ⊥) → buffer_after o buffer ≡ buffer
  -- Which it is, by what the count call returns: its error, with what comes with it,
  pub count-error : (o : Order) (buffer : List ℕ) (a : CountAnswer) → count_of o ≡ a → (a.error ≡ 0 → ⊥)
      → slice_call o buffer ≡ not_sliced a.error a.count a.date
  -- error 11 where it counts no day, as where the start is after the end,
  pub no-day : (o : Order) (buffer : List ℕ) → count_of o ≡ counted 0 → slice_call o buffer ≡ not_sliced 11 0 no_date
  pub reversed : (o : Order) (buffer : List ℕ) → is_market o.market ≡ true → is_date_of o.start ≡ true → is_date_of o.end ≡ true → min_year ≤ o.start.year
      → o.end.year ≤ max_year → number o.end < number o.start → slice_call o buffer ≡ not_sliced 11 0 no_date
  -- error 9, with the number of days, where there are more days than entries; else no error
  pub too_small : (o : Order) (buffer : List ℕ) (count : ℕ) → count_of o ≡ counted count → length buffer < count → slice_call o buffer ≡ not_sliced 9 count no_date
  pub answered : (o : Order) (buffer : List ℕ) (count : ℕ) → count_of o ≡ counted count → 1 ≤ count → count ≤ length buffer → (slice_call o buffer).error ≡ 0
