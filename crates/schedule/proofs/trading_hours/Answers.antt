-- `schedule::trading_hours` meets its contract: each arm of the code.
use mathlib.Core.Path.{ap, sym, ◌∙◌}
use native.Mathlib.Omega.{arith}
use Rattle.gregorian.specs.declared.Date.{Date}
use Rattle.schedule.specs.declared.TradingHours.{TradingHours}
use Rattle.schedule.specs.MarketHours.{trading_hours}
use Rattle.schedule.proofs.MarketHoursLaws.{us-hours, no-hours, by_code}
use Rattle.schedule.proofs.trading_hours.Goals as goal

pub returns-in-2 : goal.returns-in-2
unfolding trading_hours
returns-in-2 c = by_code _ 2 _ _ c.regular_hours.ensures c.in-2.is

pub returns-in-3 : goal.returns-in-3
unfolding trading_hours
returns-in-3 c = by_code _ 3 _ _ c.regular_hours-in-3.ensures c.in-3.is

pub returns-in-4 : goal.returns-in-4
unfolding trading_hours
returns-in-4 c = by_code _ 4 _ _ c.regular_hours-in-4.ensures c.in-4.is

pub returns-in-0 : goal.returns-in-0
returns-in-0 c =
    c.trading_hours.ensures ∙ ap (λ (f : Date → TradingHours). f c.args.date) (sym (us-hours c.args.market (omega arith)))

pub returns-in_default : goal.returns-in_default
returns-in_default c =
    c.regular_hours-in_default.ensures
    ∙ ap (λ (f : Date → TradingHours). f c.args.date) (sym (no-hours c.args.market (omega arith)))
