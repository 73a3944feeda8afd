-- The laws of the call for the list of a month.
-- Assumes nothing.
use Rattle.std.proofs.Common.{Result, Ok}
use Prim.Native.Nat.{ℕ, ◌≤◌}
use mathlib.Core.Path.{◌≡◌, refl, sym, ap, ◌∙◌}
use mathlib.Core.Bool.{true}
use mathlib.Core.List.{List}
use lib.ListN.{length}
use Rattle.markets.specs.Markets.{is_market}
use Rattle.markets.specs.Years.{is_supported}
use Rattle.trading_days.specs.Month.{month_list}
use Rattle.checks.specs.Checks.{checked_month, checked_room, final_buffer}
use Rattle.error.specs.Errors.{result_and_then}
use Rattle.checks.proofs.CheckLaws.{month-passes}
use Rattle.range_calls.specs.RangeCalls.{trading_days_in_month_result, trading_days_in_month_buffer}
use Rattle.error.specs.declared.CalendarError.{CalendarError}

module _ (market year month : ℕ) (buffer : List ℕ) where
  abbrev days : List ℕ
  days = month_list market year month

  -- what follows the check
  abbrev follow : Result (Unit {0}) CalendarError → Result ℕ CalendarError
  follow check = result_and_then check (λ _. checked_room (length days) (length buffer))

  -- the answer and the final buffer, by what the check came to
  pub month-by-check : (check : Result (Unit {0}) CalendarError) (r : Result ℕ CalendarError) (final : List ℕ) → check ≡ checked_month market year month → r ≡ follow check → final ≡ final_buffer r days buffer
      → (r ≡ trading_days_in_month_result market year month buffer) × (final ≡ trading_days_in_month_buffer market year month buffer)
  unfolding trading_days_in_month_result
  month-by-check check r final q p f =
      let answer = p ∙ ap follow q in
      (answer, f ∙ ap (λ (s : Result ℕ CalendarError). final_buffer s days buffer) answer)

  -- In a month of the supported years the list is written into the buffer, if it fits.
  pub month-of-years : is_market market ≡ true → is_supported year ≡ true → 1 ≤ month → month ≤ 12
      → trading_days_in_month_result market year month buffer ≡ checked_room (length days) (length buffer)
  month-of-years k s l u = sym (month-by-check (Ok tt) _ _ (sym (month-passes market year month k s l u)) refl refl).0
