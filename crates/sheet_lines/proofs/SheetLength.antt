-- How many bytes a sheet has: at most 136.
-- Assumes nothing.
use Prim.Native.Nat.{ℕ, ◌*◌, ◌≤◌, ◌<◌}
use mathlib.Core.List.{List, [], ◌∷◌}
use lib.ListN.{length, length-append}
use native.Mathlib.Omega.{arith}
use Rattle.gregorian.specs.Calendar.{month_length}
use Rattle.gregorian.proofs.Formulas.{month-high}
use Rattle.ranges.specs.Ranges.{Every}
use Rattle.ranges.proofs.Items.{every-each}
use Rattle.trading_days.specs.Month.{month_list}
use Rattle.trading_days.proofs.MonthDayLaws.{list-in-month, list_length}
use Rattle.decimal.specs.Decimal.{decimal}
use Rattle.decimal.proofs.DecimalLaws.{length-at-most}
use Rattle.request.specs.Text.{text_of}
use Rattle.sheet_lines.specs.Sheet.{comma_separated, sheet_lines, month_sheet}

two_digits : (n : ℕ) → n ≤ 31 → length (decimal n) ≤ 2
two_digits n h = length-at-most 1 n (omega arith)

-- A number of one or two digits, and a comma, for each.
numbers-length : (numbers : List ℕ) → Every (λ n. n ≤ 31) numbers → length (comma_separated numbers) ≤ 3 * length numbers
unfolding comma_separated
numbers-length [] e = omega arith
numbers-length (n ∷ []) e = omega (arith, two_digits n e.0)
numbers-length (n ∷ m ∷ ns) e = simp length-append (omega (arith, two_digits n e.0, numbers-length (m ∷ ns) e.1))

-- [sheet-output], where the code has one digit and the year four
pub sheet-length : (market year month : ℕ) → market < 10 → year < 10000 → month ≤ 12
    → length (month_sheet market year month) ≤ 136
unfolding sheet_lines text_of
sheet-length market year month k y to =
    let days = month_list market year month in
    let many = list_length market year month in
    let short =
    every-each (λ d. d ≤ month_length year month) (λ d. d ≤ 31) (λ d h. omega (arith, month-high year month to)) days (list-in-month market year month) in
    simp length-append (omega (
      arith,
      length-at-most 0 market (omega arith),
      length-at-most 3 year (omega arith),
      two_digits month (omega arith),
      two_digits (length days) many,
      numbers-length days short,
    ))
