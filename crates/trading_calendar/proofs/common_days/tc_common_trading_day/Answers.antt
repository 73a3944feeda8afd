-- `trading_calendar::common_days::tc_common_trading_day` meets its contract: the first such day is one.
use mathlib.Core.Path.{ap, ◌∙◌}
use Rattle.answers.specs.Answers.{optional_date_answer}
use Rattle.answers.proofs.AnswerLaws.{first-is-right}
use Rattle.trading_calendar.proofs.common_days.tc_common_trading_day.Goals as goal

pub returns : goal.returns
returns c = first-is-right _ _ _ _ (c.from.ensures ∙ ap optional_date_answer c.common_trading_day.ensures)
