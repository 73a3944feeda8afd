-- `markets::uk::holidays::is_christmas_or_boxing_day` meets its contract: other days, and each arm of the weekday of Christmas Day.
use native.Mathlib.Omega.{arith}
use Rattle.gregorian.specs.Calendar.{friday, saturday, sunday}
use Rattle.markets.proofs.UkLaws.{not-christmas-or-boxing-day, christmas-on, christmas-else}
use Rattle.rule_days.proofs.RuleMonths.{is-away}
use Rattle.markets.proofs.uk.holidays.is_christmas_or_boxing_day.Goals as goal

pub returns-then-not-is_within : goal.returns-then-not-is_within
returns-then-not-is_within c = not-christmas-or-boxing-day _ _ (is-away c.args.day _ _ _ c.is_within.ensures c.if-not-is_within.true)

pub returns-in-4 : goal.returns-in-4
returns-in-4 c = christmas-on friday _ c.args.day.number c.fixed_day-christmas.result _ c.in-4.is c.weekday.ensures c.fixed_day-christmas.ensures.0

pub returns-in-5 : goal.returns-in-5
returns-in-5 c = christmas-on saturday _ c.args.day.number c.fixed_day-christmas.result _ c.in-5.is c.weekday.ensures c.fixed_day-christmas.ensures.0

pub returns-in-6 : goal.returns-in-6
returns-in-6 c = christmas-on sunday _ c.args.day.number c.fixed_day-christmas.result _ c.in-6.is c.weekday.ensures c.fixed_day-christmas.ensures.0

pub returns-in_default : goal.returns-in_default
returns-in_default c = christmas-else _ _ _ c.fixed_day-christmas.ensures.0 (λ k. omega arith) (λ k. omega arith) (λ k. omega arith)
