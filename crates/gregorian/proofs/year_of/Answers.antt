-- `gregorian::year_of` meets its contract: the guess is right or one too low, and the test tells which.
use native.Mathlib.Omega.{arith}
use Rattle.gregorian.proofs.Formulas.{year-one-low, year-right, year-part}
use Rattle.gregorian.proofs.year_of.Goals as goal

pub returns-then-days_in_years-n : goal.returns-then-days_in_years-n
returns-then-days_in_years-n c =
    let h = c.requires in
    year-part _ _ h.0 (year-one-low _ _ _ h (omega arith) c.days_in_years.ensures c.if-days_in_years-n.true)

pub returns-else-days_in_years-n : goal.returns-else-days_in_years-n
returns-else-days_in_years-n c =
    let h = c.requires in
    year-part _ _ h.0 (year-right _ _ _ h (omega arith) c.days_in_years.ensures c.if-days_in_years-n.false)
