-- `schedule::is_market_open_at` meets its contract: each arm of the code.
use mathlib.Core.Path.{ap, sym, ◌∙◌}
use native.Mathlib.Omega.{arith}
use Rattle.gregorian.specs.declared.Date.{Date}
use Rattle.schedule.specs.declared.TradingHours.{TradingHours}
use Rattle.schedule.specs.Schedule.{is_open_at}
use Rattle.schedule.specs.MarketHours.{trading_hours}
use Rattle.schedule.proofs.MarketHoursLaws.{us-hours, no-hours, us-open, regular-open, never-open, open-by-code}
use Rattle.schedule.proofs.is_market_open_at.Goals as goal

pub returns-in-2 : goal.returns-in-2
unfolding trading_hours
returns-in-2 c = λ date. open-by-code _ 2 date _ _ (c.is_within.ensures ∙ regular-open _ _ date _) c.in-2.is

pub returns-in-3 : goal.returns-in-3
unfolding trading_hours
returns-in-3 c = λ date. open-by-code _ 3 date _ _ (c.is_within-in-3.ensures ∙ regular-open _ _ date _) c.in-3.is

pub returns-in-4 : goal.returns-in-4
unfolding trading_hours
returns-in-4 c = λ date. open-by-code _ 4 date _ _ (c.is_within-in-4.ensures ∙ regular-open _ _ date _) c.in-4.is

pub returns-in-0 : goal.returns-in-0
returns-in-0 c =
    let h = us-hours c.args.market (omega arith) in
    λ date. c.is_within-in-0.ensures ∙ us-open date _ ∙ ap (λ (f : Date → TradingHours). is_open_at (f date) c.args.time) (sym h)

pub returns-in_default : goal.returns-in_default
returns-in_default c =
    let h = no-hours c.args.market (omega arith) in
    λ date. never-open date c.args.time ∙ ap (λ (f : Date → TradingHours). is_open_at (f date) c.args.time) (sym h)
