-- `gregorian::days::date_after` meets its contract: each case of the day after.
use mathlib.Core.Path.{sym, ◌∙◌}
use native.Mathlib.Omega.{arith}
use Rattle.gregorian.proofs.Laws.{is-date}
use Rattle.gregorian.proofs.Formulas.{month-high}
use Rattle.gregorian.proofs.DaySteps.{after-in-month, after-month, after-year}
use Rattle.gregorian.proofs.days.date_after.Goals as goal

pub overflow_add-result : goal.overflow_add-result
overflow_add-result c =
    let t = c.args.date in
    let x = (is-date t.year t.month t.day c.requires).exists in
    record { fits = omega (arith, x.d-high, month-high t.year _ x.m-high) }

pub returns-then-month_goes_on : goal.returns-then-month_goes_on
returns-then-month_goes_on c = after-in-month _ (sym c.month_goes_on.ensures ∙ c.if-month_goes_on.true)

pub returns-then-date-lt12 : goal.returns-then-date-lt12
returns-then-date-lt12 c = after-month c.args.date (sym c.month_goes_on.ensures ∙ c.if-month_goes_on.false) c.if-date-lt12.true

pub overflow_add-result-2 : goal.overflow_add-result-2
overflow_add-result-2 c = record { fits = omega (arith, (is-date c.args.date.year _ _ c.requires).y-high) }

pub returns : goal.returns
returns c = after-year c.args.date (sym c.month_goes_on.ensures ∙ c.if-month_goes_on.false) c.if-date-lt12.false
