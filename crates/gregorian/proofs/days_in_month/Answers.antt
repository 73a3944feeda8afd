-- `gregorian::days_in_month` meets its contract: February by the leap year, the other months by the formula, and 0 for no month.
use mathlib.Core.Path.{sym}
use mathlib.Core.Bool.{true, false}
use Rattle.gregorian.proofs.Formulas.{february, month-0, other-month, no-month}
use Rattle.gregorian.proofs.days_in_month.Goals as goal

-- February, by what is_leap answered
pub returns-then-is_leap : goal.returns-then-is_leap
returns-then-is_leap c = february _ _ _ true c.if-month-eq2.true c.is_leap.ensures c.if-is_leap.true

pub returns-else-is_leap : goal.returns-else-is_leap
returns-else-is_leap c = february _ _ _ false c.if-month-eq2.true c.is_leap.ensures c.if-is_leap.false

pub returns-then-month-lt1 : goal.returns-then-month-lt1
returns-then-month-lt1 c = month-0 c.args.year c.args.month c.if-month-lt1.true

pub returns-then-month-lt13 : goal.returns-then-month-lt13
returns-then-month-lt13 c = other-month c.args.year c.args.month c.if-month-lt1.false c.if-month-lt13.true c.if-month-eq2.false

pub returns-else-month-lt13 : goal.returns-else-month-lt13
returns-else-month-lt13 c = sym (no-month c.args.year c.args.month c.if-month-lt13.false)
