-- `gregorian::days_in_months` meets its contract: the formula, less what February lacks from March on, is the sum.
use mathlib.Core.Bool.{true, false}
use native.Mathlib.Omega.{arith}
use Rattle.gregorian.proofs.Formulas.{before-march, from-march}
use Rattle.gregorian.proofs.days_in_months.Goals as goal

pub returns-then-k-lt2 : goal.returns-then-k-lt2
returns-then-k-lt2 c = before-march c.args.year c.args.k c.if-k-lt2.true

-- from March on, by what is_leap answered
pub returns-then-is_leap : goal.returns-then-is_leap
returns-then-is_leap c = from-march _ _ _ true c.if-k-lt2.false (omega arith) c.is_leap.ensures c.if-is_leap.true

pub returns-else-is_leap : goal.returns-else-is_leap
returns-else-is_leap c = from-march _ _ _ false c.if-k-lt2.false (omega arith) c.is_leap.ensures c.if-is_leap.false
