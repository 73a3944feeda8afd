-- The call that slices an order: what it returns, and the buffer after it.
-- Assumes nothing.
use Rattle.std.proofs.Common.{Result, Ok, Err}
use Prim.Native.Nat.{ℕ, zero, suc, ◌+◌, ◌-◌, ◌*◌, ◌/◌, ◌%◌, ◌≤◌, ◌<◌}
use mathlib.Core.Path.{◌≡◌, refl, sym, ap, ◌∙◌, subst}
use mathlib.Core.Bool.{true}
use mathlib.Core.List.{List, [], ◌∷◌, ◌++◌}
use lib.ListN.{length, get_or, take, drop, replicate, get_or-append}
use lib.Seq.{drop_at}
use native.Mathlib.Nat.{mul-suc, mul-add, add-mul, zero-add}
use native.Mathlib.Omega.{arith}
use native.Mathlib.Decide.{dec_lt}
use Rattle.buffers.specs.Buffers.{overwrite}
use Rattle.buffers.proofs.BufferLaws.{overwrite-length, overwrite-start}
use Rattle.gregorian.specs.Calendar.{no_date, is_date_of, number}
use Rattle.markets.specs.Markets.{is_market, is_trading_day}
use Rattle.markets.specs.Years.{min_year, max_year}
use Rattle.ranges.specs.Ranges.{sum_of}
use Rattle.ranges.proofs.Counts.{count_none}
use Rattle.checks.specs.Checks.{checked_room, final_buffer}
use Rattle.checks.proofs.CheckLaws.{room-enough, room-short}
use Rattle.range_calls.proofs.CountLaws.{count-of-dates}
use Rattle.orders.specs.Slices.{slice, slices_of, slices, slice_days, sliced_by, slice_result, slice_buffer}
use Rattle.orders.proofs.SliceLaws.{no-day-to-slice, some-day, days-checked, tabulate-length, tabulate-entry, one_more, no_more, slices-are}
use Rattle.orders.proofs.SliceLaws.{whole-order, remainder-less, slice-by-days}
use Rattle.answers.specs.declared.counts.CountAnswer.{CountAnswer}
use Rattle.answers.specs.declared.slices.SliceAnswer.{SliceAnswer}
use Rattle.answers.specs.Answers.{count_answer, slice_answer}
use Rattle.answers.specs.SliceCall.{slice_order_answer}
use Rattle.answers.specs.Expected.{counted, not_sliced}
use Rattle.answers.proofs.AnswerLaws.{counted_is, all-counted, sliced-is, no-day-is, too-few-entries-is, is-error, not-counted, days-counted}
use Rattle.order_laws.specs.OrderLaws.{Order, count_of, slice_call, buffer_after, Sliced, IsSliced, AllOrderLaws}
use Rattle.error.specs.declared.CalendarError.{CalendarError}

-- ---- the sum

sum-append : (l r : List ℕ) → sum_of (λ n. n) (l ++ r) ≡ sum_of (λ n. n) l + sum_of (λ n. n) r
sum-append [] r = sym (zero-add _)
sum-append (x ∷ l) r = omega (arith, sum-append l r)

sum-replicate : (k n : ℕ) → sum_of (λ n. n) (replicate k n) ≡ n * k
sum-replicate zero n = omega arith
sum-replicate (suc k) n = omega (arith, sum-replicate k n, mul-suc n k)

sum-slices : (per_day remainder count : ℕ) → remainder ≤ count → sum_of (λ n. n) (slices_of per_day remainder count) ≡ per_day * count + remainder
sum-slices per_day remainder count h =
    let k = count - remainder in
    let first = replicate remainder (per_day + 1) in
    let others = replicate k per_day in
    let all : remainder + k ≡ count = omega arith in
    ap (sum_of (λ n. n)) (sym (slices-are per_day remainder count (per_day + 1) h (λ l. refl)))
    ∙ omega (arith, sum-append first others, sum-replicate remainder (per_day + 1), sum-replicate k per_day, add-mul per_day 1 remainder, mul-add per_day remainder k, ap (λ (n : ℕ). per_day * n) all)

-- ---- the entries

module _ (per_day remainder count : ℕ) (less : remainder < count) (buffer : List ℕ) (room : count ≤ length buffer) where
  abbrev entries : List ℕ
  entries = slices_of per_day remainder count

  abbrev after : List ℕ
  after = overwrite entries buffer

  as_many : length entries ≡ count
  as_many = tabulate-length (slice per_day remainder) count

  entry : (i : ℕ) → i < count → get_or after i 0 ≡ slice per_day remainder i
  unfolding overwrite
  entry i h = get_or-append entries _ 0 i (omega (arith, as_many)) ∙ tabulate-entry (slice per_day remainder) count i h

  first-days : (i : ℕ) → i < remainder → get_or after i 0 ≡ per_day + 1
  first-days i h = entry i (omega arith) ∙ one_more per_day remainder i h

  other-days : (i : ℕ) → remainder ≤ i → i < count → get_or after i 0 ≡ per_day
  other-days i h l = entry i l ∙ no_more per_day remainder i h

  -- an entry is the shares per day or one more
  within : (i : ℕ) → i < count → (per_day ≤ get_or after i 0) × (get_or after i 0 ≤ per_day + 1)
  within i l = elim (dec_lt i remainder) [
    | yes h ↦ (omega (arith, first-days i h), omega (arith, first-days i h))
    | no h ↦ (omega (arith, other-days i (omega arith) l), omega (arith, other-days i (omega arith) l))
  ]

  never-grow : (i j : ℕ) → i ≤ j → j < count → get_or after j 0 ≤ get_or after i 0
  never-grow i j h l = elim (dec_lt j remainder) [
    | yes b ↦ omega (arith, first-days i (omega arith), within j l)
    | no b ↦ omega (arith, other-days j (omega arith) l, within i (omega arith))
  ]

  sum_is : sum_of (λ n. n) (take count after) ≡ per_day * count + remainder
  sum_is =
      ap (λ (n : ℕ). sum_of (λ n. n) (take n after)) (sym as_many)
      ∙ ap (sum_of (λ n. n)) (overwrite-start entries buffer)
      ∙ sum-slices per_day remainder count (omega arith)

  rest-stays : drop count after ≡ drop count buffer
  unfolding overwrite
  rest-stays = drop_at entries _ count as_many ∙ ap (λ (n : ℕ). drop n buffer) as_many

  length-stays : length after ≡ length buffer
  length-stays = overwrite-length entries buffer (omega (arith, as_many))

  -- these are the numbers and the entries of an order
  of-order : (o : Order) → count_of o ≡ counted count → per_day * count + remainder ≡ o.quantity → Sliced o count per_day remainder buffer after
  of-order o c w = record {
    count-is = c;
    one-day = omega arith;
    whole-order = w;
    remainder-less = less;
    room = room;
    sum_is = sum_is ∙ w;
    never-grow = never-grow;
    at_most_one = λ i j h l. omega (arith, within i h, within j l);
    first-days = first-days;
    other-days = other-days;
    rest-stays = rest-stays;
    length-stays = length-stays;
  }

-- ---- the call

module _ (o : Order) (buffer : List ℕ) where
  abbrev count : ℕ
  count = (count_of o).count

  abbrev days : Result ℕ CalendarError
  days = slice_days count (length buffer)

  -- What it returns, and the buffer after it, where the count call gives no error, by what its checks came to.
  module _ (z : (count_of o).error ≡ 0) (d : Result ℕ CalendarError) (e : days ≡ d) where
    by-days : (sliced_by o.quantity d ≡ slice_result o.quantity count buffer) × (final_buffer d (slices o.quantity count) buffer ≡ slice_buffer o.quantity count buffer)
    by-days = slice-by-days o.quantity count buffer d _ _ (sym e) refl refl

    returned : slice_call o buffer ≡ slice_answer (sliced_by o.quantity d)
    returned = (days-counted o.quantity (count_of o) buffer z).0 ∙ ap slice_answer (sym by-days.0)

    left : buffer_after o buffer ≡ final_buffer d (slices o.quantity count) buffer
    left = (days-counted o.quantity (count_of o) buffer z).1 ∙ sym by-days.1

  count-error : (a : CountAnswer) → count_of o ≡ a → (a.error ≡ 0 → ⊥) → slice_call o buffer ≡ not_sliced a.error a.count a.date
  count-error a p n = ap (λ (b : CountAnswer). slice_order_answer o.quantity b buffer) p ∙ (not-counted o.quantity a buffer n).0

  sliced : (slice_call o buffer).error ≡ 0 → IsSliced o buffer
  sliced z = elim (dec_lt 0 (count_of o).error) [
    | yes n ↦ let e = ap (λ (a : SliceAnswer). a.error) (count-error (count_of o) refl (λ y. omega (arith, n, y))) in absurd (omega (arith, n, e, z))
    | no n ↦ by (omega arith) days refl
  ]
    where
      by : (y : (count_of o).error ≡ 0) (d : Result ℕ CalendarError) → days ≡ d → IsSliced o buffer
      by y (Ok n) e =
          let c = days-checked count (length buffer) n e in
          let per_day = o.quantity / n in
          let remainder = o.quantity % n in
          let less = remainder-less o.quantity n c.one in
          let all = of-order per_day remainder n less buffer c.fit o (all-counted _ y ∙ ap counted (sym c.all)) (whole-order o.quantity n c.one) in
          let after = left y (Ok n) e ∙ ap (λ (k : ℕ). overwrite (slices o.quantity k) buffer) (sym c.all) in (
            n,
            per_day,
            remainder,
            returned y (Ok n) e ∙ sliced-is n per_day remainder,
            subst (Sliced o n per_day remainder buffer) (sym after) all,
          )
      by y (Err d) e = absurd (is-error d (ap (λ (a : SliceAnswer). a.error) (sym (returned y (Err d) e)) ∙ z))

  unchanged : ((slice_call o buffer).error ≡ 0 → ⊥) → buffer_after o buffer ≡ buffer
  unchanged n = elim (dec_lt 0 (count_of o).error) [
    | yes m ↦ (not-counted o.quantity (count_of o) buffer (λ y. omega (arith, m, y))).1
    | no m ↦ by (omega arith) days refl
  ]
    where
      by : (y : (count_of o).error ≡ 0) (d : Result ℕ CalendarError) → days ≡ d → buffer_after o buffer ≡ buffer
      by y (Ok k) e = absurd (n (ap (λ (a : SliceAnswer). a.error) (returned y (Ok k) e ∙ sliced-is k (o.quantity / k) (o.quantity % k))))
      by y (Err d) e = left y (Err d) e

  -- where the count call counts n days
  module _ (n : ℕ) (p : count_of o ≡ counted n) where
    no-error : (count_of o).error ≡ 0
    no-error = ap (λ (a : CountAnswer). a.error) p

    same-days : days ≡ slice_days n (length buffer)
    same-days = ap (λ (a : CountAnswer). slice_days a.count (length buffer)) p

    asked-room : 1 ≤ n → days ≡ checked_room n (length buffer)
    asked-room l = same-days ∙ some-day n (length buffer) (λ z. omega (arith, z))

    too_small : length buffer < n → slice_call o buffer ≡ not_sliced 9 n no_date
    too_small h = returned no-error _ (asked-room (omega arith) ∙ room-short n (length buffer) h) ∙ too-few-entries-is n

    answered : 1 ≤ n → n ≤ length buffer → (slice_call o buffer).error ≡ 0
    answered l h =
        ap (λ (a : SliceAnswer). a.error)
        (returned no-error _ (asked-room l ∙ room-enough n (length buffer) h) ∙ sliced-is n (o.quantity / n) (o.quantity % n))

  no-day : count_of o ≡ counted 0 → slice_call o buffer ≡ not_sliced 11 0 no_date
  no-day p = returned (no-error 0 p) _ (same-days 0 p ∙ no-day-to-slice 0 (length buffer) refl) ∙ no-day-is

  reversed : is_market o.market ≡ true → is_date_of o.start ≡ true → is_date_of o.end ≡ true → min_year ≤ o.start.year → o.end.year ≤ max_year → number o.end < number o.start
      → slice_call o buffer ≡ not_sliced 11 0 no_date
  reversed k s t l u h =
      no-day
      (ap count_answer (count-of-dates o.market o.start.year o.start.month o.start.day o.end.year o.end.month o.end.day k s t l u)
      ∙ counted_is _
      ∙ ap counted (count_none (is_trading_day o.market) (number o.start) (number o.end) h))

-- [slice-laws]
pub order-laws : AllOrderLaws
order-laws = record {
  sliced = sliced;
  unchanged = unchanged;
  count-error = count-error;
  no-day = no-day;
  reversed = reversed;
  too_small = too_small;
  answered = answered;
}
