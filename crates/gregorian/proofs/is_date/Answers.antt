-- `gregorian::is_date` meets its contract: each return answers by the tests before it.
use Prim.Native.Nat.{ℕ, ◌≤◌}
use mathlib.Core.Path.{◌≡◌, ap}
use mathlib.Core.Bool.{true, ◌&&◌}
use lib.Dec.{leb}
use native.Mathlib.Omega.{arith}
use borrow.Author.Tests.{lt-leb, le-leb}
use Rattle.gregorian.specs.Calendar.{month_length, last_year, is_date}
use Rattle.gregorian.proofs.Laws.{month-low}
use Rattle.gregorian.proofs.is_date.Goals as goal

-- past the tests of the year, and past those of the month
year-in : (y : ℕ) → 1 ≤ y → y ≤ last_year → (leb 1 y && leb y last_year) ≡ true
year-in y l h = simp (le-leb _ _ l, le-leb _ _ h)

month-in : (y m : ℕ) → 1 ≤ y → y ≤ last_year → 1 ≤ m → m ≤ 12 → (leb 1 y && leb y last_year && leb 1 m && leb m 12) ≡ true
month-in y m l h a b = simp (year-in y l h, le-leb _ _ a, le-leb _ _ b)

pub returns-then-year-lt1 : goal.returns-then-year-lt1
unfolding is_date
returns-then-year-lt1 c = simp (lt-leb _ _ c.if-year-lt1.true)

pub returns-then-year-gt-LAST_YEAR : goal.returns-then-year-gt-LAST_YEAR
unfolding is_date
returns-then-year-gt-LAST_YEAR c = simp (le-leb _ _ c.if-year-lt1.false, lt-leb _ _ c.if-year-gt-LAST_YEAR.true)

pub returns-then-month-lt1 : goal.returns-then-month-lt1
unfolding is_date
returns-then-month-lt1 c = simp (year-in c.args.year c.if-year-lt1.false c.if-year-gt-LAST_YEAR.false, lt-leb _ _ c.if-month-lt1.true)

pub returns-then-month-gt12 : goal.returns-then-month-gt12
unfolding is_date
returns-then-month-gt12 c = simp (year-in c.args.year c.if-year-lt1.false c.if-year-gt-LAST_YEAR.false, le-leb _ _ c.if-month-lt1.false, lt-leb _ _ c.if-month-gt12.true)

pub returns-then-day-lt1 : goal.returns-then-day-lt1
unfolding is_date
returns-then-day-lt1 c = simp (month-in c.args.year c.args.month c.if-year-lt1.false c.if-year-gt-LAST_YEAR.false c.if-month-lt1.false c.if-month-gt12.false, lt-leb _ _ c.if-day-lt1.true)

pub returns-then-day-lt29 : goal.returns-then-day-lt29
unfolding is_date
returns-then-day-lt29 c =
    let a = c.args in
    let length = month-low a.year a.month c.if-month-lt1.false c.if-month-gt12.false in
    simp (month-in c.args.year c.args.month c.if-year-lt1.false c.if-year-gt-LAST_YEAR.false c.if-month-lt1.false c.if-month-gt12.false, le-leb _ _ c.if-day-lt1.false, le-leb a.day (month_length a.year a.month) (omega (arith, length)))

pub returns : goal.returns
unfolding is_date
returns c =
    simp (month-in c.args.year c.args.month c.if-year-lt1.false c.if-year-gt-LAST_YEAR.false c.if-month-lt1.false c.if-month-gt12.false, le-leb _ _ c.if-day-lt1.false)
    (ap (leb c.args.day) c.days_in_month.ensures)
