-- `japan::holidays::is_bridge_day` meets its contract: other days, and the tests, one by one.
use mathlib.Core.Path.{ap, ◌∙◌}
use mathlib.Core.Bool.{◌&&◌, ◌||◌}
use lib.Dec.{eqb}
use Rattle.gregorian.specs.Calendar.{tuesday, thursday, sunday, weekday_of}
use Rattle.japan.specs.Inner.{is_bridge_day}
use Rattle.japan.proofs.JapanLaws.{not-bridge-day}
use Rattle.rule_days.proofs.RuleMonths.{is-away}
use Rattle.japan.proofs.holidays.is_bridge_day.Goals as goal

pub returns-then-not-is_within : goal.returns-then-not-is_within
returns-then-not-is_within c = not-bridge-day _ _ (is-away c.args.day _ _ _ c.is_within.ensures c.if-not-is_within.true)

pub returns : goal.returns
unfolding is_bridge_day
returns c =
    let n = c.args.day.number in
    let may2 = c.fixed_day-may_2.ensures.0 in
    let may3 = c.fixed_day-may_3.ensures.0 in
    let may4 = c.fixed_day-may_4.ensures.0 in
    let may5 = c.fixed_day-may_5.ensures.0 in
    let may6 = c.fixed_day-may_6.ensures.0 in
    let on3 = c.weekday.ensures ∙ ap weekday_of may3 in
    let on5 = c.weekday-2.ensures ∙ ap weekday_of may5 in
    let on4 = c.weekday-3.ensures ∙ ap weekday_of may4 in
    λ j. eqb (on3 j) tuesday && eqb n (may2 j) || eqb (on5 j) thursday && eqb n (may6 j) || eqb (on4 j) sunday && eqb n (may6 j)
