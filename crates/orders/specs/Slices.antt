-- An order sliced over its trading days: docs/SCOPE.md [slices], [slice-order]. Assumes nothing.
use Rattle.std.specs.Prelude.{ℕ, zero, suc, ◌+◌, ◌/◌, ◌%◌, cond, List, [], ◌∷◌, ◌++◌, eqb, ltb, length, Result, Ok, Err}
use Rattle.error.specs.declared.CalendarError.TheVariants.{NoTradingDayInRange}
use Rattle.checks.specs.Checks.{checked_room, final_buffer}
use Rattle.error.specs.declared.CalendarError.{CalendarError}
use Rattle.orders.specs.declared.Slicing.{Slicing}

-- ---- the slices

-- f 0, f 1, .. and f (n - 1)
unfoldable pub tabulate : (ℕ → ℕ) → ℕ → List ℕ
tabulate f zero = []
tabulate f (suc n) = tabulate f n ++ (f n ∷ [])

-- the shares of day i, counted from 0: one more than those per day until the remainder is spent
unfoldable pub slice : ℕ → ℕ → ℕ → ℕ
slice per_day remainder i = cond (ltb i remainder) (per_day + 1) per_day

-- the slices of so many days
abbrev pub slices_of : ℕ → ℕ → ℕ → List ℕ
slices_of per_day remainder count = tabulate (slice per_day remainder) count

-- [slices]: those of an order; there is at least one day (`slice_days`)
abbrev pub slices : ℕ → ℕ → List ℕ
slices quantity count = slices_of (quantity / count) (quantity % count) count

-- ---- over the days counted

-- The number of days: error 11 if there are none, error 9 with their number if there is room for fewer.
unfoldable pub slice_days : ℕ → ℕ → Result ℕ CalendarError
slice_days count room = cond (eqb count 0) (Err NoTradingDayInRange) (checked_room count room)

-- the days, the shares per day and the remainder
abbrev pub sliced_by : ℕ → Result ℕ CalendarError → Result Slicing CalendarError
sliced_by quantity (Ok n) = Ok (record { count = n; per_day = quantity / n; remainder = quantity % n })
sliced_by quantity (Err e) = Err e

unfoldable pub slice_result : ℕ → ℕ → List ℕ → Result Slicing CalendarError
slice_result quantity count buffer = sliced_by quantity (slice_days count (length buffer))

-- what the buffer holds at the end
abbrev pub slice_buffer : ℕ → ℕ → List ℕ → List ℕ
slice_buffer quantity count buffer = final_buffer (slice_days count (length buffer)) (slices quantity count) buffer
