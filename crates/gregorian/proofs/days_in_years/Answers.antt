-- `gregorian::days_in_years` meets its contract: the formula is the sum of the year lengths.
use mathlib.Core.Path.{sym}
use Rattle.gregorian.proofs.YearDays.{years-is}
use Rattle.gregorian.proofs.days_in_years.Goals as goal

pub returns : goal.returns
returns c = sym (years-is c.args.k)
