-- `utils::month_weekday::MonthWeekday::has_next_month` meets its contract: only December 9999 has none.
use Rattle.utils.proofs.WeekdayLaws.{next-month}
use Rattle.utils.proofs.month_weekday.MonthWeekday.has_next_month.Goals as goal

pub returns : goal.returns
returns c = next-month c.args.self.year c.args.self.month c.args.self.is_month
