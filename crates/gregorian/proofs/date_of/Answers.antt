-- `gregorian::date_of` meets its contract: the year, the month and the rest make the one date with that number.
use Rattle.gregorian.proofs.Formulas.{date-parts, rest}
use Rattle.gregorian.proofs.date_of.Goals as goal

pub month_of-month-requires : goal.month_of-month-requires
month_of-month-requires c = rest _ _ _ c.days_in_years.ensures c.year_of-year.ensures.1

pub returns : goal.returns
returns c = date-parts _ _ _ _ _ c.requires c.days_in_years.ensures c.days_in_months.ensures c.year_of-year.ensures.1 c.month_of-month.ensures
