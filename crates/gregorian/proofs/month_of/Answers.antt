-- `gregorian::month_of` meets its contract: the guess is right or one too low, and the test tells which.
use Rattle.gregorian.proofs.Formulas.{month-one-low, month-right, guess_small}
use Rattle.gregorian.proofs.month_of.Goals as goal

pub days_in_months-requires : goal.days_in_months-requires
days_in_months-requires c = guess_small c.args.year c.args.n c.requires

pub returns-then-days_in_months-n : goal.returns-then-days_in_months-n
returns-then-days_in_months-n c = month-one-low _ _ _ c.requires c.days_in_months.ensures c.if-days_in_months-n.true

pub returns-else-days_in_months-n : goal.returns-else-days_in_months-n
returns-else-days_in_months-n c = month-right _ _ _ c.requires c.days_in_months.ensures c.if-days_in_months-n.false
