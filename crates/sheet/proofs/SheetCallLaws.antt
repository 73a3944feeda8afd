-- The sheet of a month by what its check came to.
-- Assumes nothing.
use Rattle.std.proofs.Common.{Result, Ok, Err}
use Prim.Native.Nat.{ℕ, ◌≤◌}
use mathlib.Core.Path.{◌≡◌, refl, sym, ap, ◌∙◌}
use mathlib.Core.List.{List}
use lib.ListN.{length}
use native.Mathlib.Omega.{arith}
use Rattle.markets.proofs.MarketLaws.{market-code}
use Rattle.markets.proofs.YearLaws.{supported-years}
use Rattle.trading_days.specs.Month.{month_list}
use Rattle.checks.specs.Checks.{checked_month, checked_room, final_buffer}
use Rattle.error.specs.Errors.{result_and_then}
use Rattle.checks.proofs.CheckLaws.{CheckedMonth, month-checked}
use Rattle.sheet_lines.specs.Sheet.{sheet_text, month_sheet}
use Rattle.sheet_lines.proofs.SheetLength.{sheet-length}
use Rattle.sheet.specs.SheetCall.{sheet_of_month, sheet_written, sheet_buffer}
use Rattle.error.specs.declared.CalendarError.{CalendarError}

module _ (market year month : ℕ) where
  -- what follows the check
  abbrev follow : Result (Unit {0}) CalendarError → Result (List ℕ) CalendarError
  follow check = result_and_then check (λ _. Ok (month_sheet market year month))

  pub sheet-by-check : (check : Result (Unit {0}) CalendarError) → checked_month market year month ≡ check → sheet_of_month market year month ≡ follow check
  unfolding sheet_of_month
  sheet-by-check check e = ap follow e

  -- A sheet comes with no error, and is that of the month.
  pub sheet-asked : (bytes : List ℕ) → sheet_of_month market year month ≡ Ok bytes
      → CheckedMonth market year month × (bytes ≡ month_sheet market year month)
  sheet-asked bytes e = by (checked_month market year month) refl
    where
      by : (check : Result (Unit {0}) CalendarError) → checked_month market year month ≡ check → CheckedMonth market year month × (bytes ≡ month_sheet market year month)
      by (Ok tt) c =
          let z : Ok bytes ≡ Ok (month_sheet market year month) = sym e ∙ sheet-by-check _ c in
          (month-checked market year month c, cc)
      by (Err d) c =
          let z : Err d ≡ Ok bytes = sym (sheet-by-check _ c) ∙ e in
          absurd (let z : ◌≡◌ {A = ℕ} 0 1 = cc in omega arith)

  -- Every sheet fits in 136 bytes.
  pub sheet-fits : CheckedMonth market year month → length (month_sheet market year month) ≤ 136
  sheet-fits k = sheet-length market year month (omega (arith, market-code market k.known)) (omega (arith, supported-years year k.supported)) k.to

  -- What is written where the check found no error: the sheet of the days of the month list.
  pub sheet-written : (days out final : List ℕ) (r : Result ℕ CalendarError) → checked_month market year month ≡ (Ok tt) → days ≡ month_list market year month
      → (r ≡ checked_room (length (sheet_text market year month days)) (length out)) × (final ≡ final_buffer r (sheet_text market year month days) out)
      → (r ≡ sheet_written (sheet_of_month market year month) out) × (final ≡ sheet_buffer (sheet_of_month market year month) out)
  sheet-written days out final r c d (p, w) =
      let bytes = sheet_text market year month days in
      let asked : sheet_of_month market year month ≡ Ok bytes = sheet-by-check _ c ∙ ap (λ (k : List ℕ). Ok (sheet_text market year month k)) (sym d) in
      rw asked (p, w ∙ ap (λ (s : Result ℕ CalendarError). final_buffer s bytes out) p)
