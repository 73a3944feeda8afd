-- `utils::easter::calculate_easter` meets its contract: so many days after 22 March.
use Rattle.std.proofs.Common.{Some}
use Prim.Native.Nat.{ℕ, ◌+◌, ◌≤◌}
use mathlib.Core.Path.{◌≡◌, ap, sym, ◌∙◌}
use mathlib.Core.Bool.{true}
use native.Mathlib.Omega.{arith}
use borrow.Author.Tests.{lt-leb, le-leb}
use Rattle.gregorian.specs.Calendar.{last_year, month_length, is_date}
use Rattle.gregorian.proofs.Laws.{date-by, number-range}
use Rattle.utils.specs.Easter.{calculate_easter}
use Rattle.utils.proofs.EasterLaws.{easter-found}
use Rattle.utils.proofs.easter.calculate_easter.Goals as goal

pub returns-then-year-lt1 : goal.returns-then-year-lt1
unfolding calculate_easter
returns-then-year-lt1 c = simp (lt-leb 1 c.args.year (omega arith))

pub returns-then-year-gt-LAST_YEAR : goal.returns-then-year-gt-LAST_YEAR
unfolding calculate_easter
returns-then-year-gt-LAST_YEAR c = simp (le-leb 1 c.args.year (omega arith), lt-leb c.args.year last_year (omega arith))

-- past the tests of the year
is-date : (y : ℕ) → 1 ≤ y → y ≤ last_year → is_date y 3 22 ≡ true
unfolding month_length
is-date y l h = date-by y 3 22 (l, h) (omega arith, omega arith) (omega arith, omega arith)

pub day_number-requires : goal.day_number-requires
day_number-requires c = is-date c.args.year (omega arith) (omega arith)

pub overflow_add-easter : goal.overflow_add-easter
overflow_add-easter c =
    let d = is-date c.args.year (omega arith) (omega arith) in
    record { fits = omega (arith, c.day_number.ensures, number-range _ 3 22 d, c.easter_days.ensures.1) }

pub returns : goal.returns
returns c =
    let day = ap (λ n. n + c.easter_days.result) c.day_number.ensures in
    ap Some (day ∙ sym c.easter_days.ensures.0) ∙ sym (easter-found c.args.year (omega arith) (omega arith))
