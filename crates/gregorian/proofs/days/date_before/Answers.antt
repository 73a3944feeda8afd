-- `gregorian::days::date_before` meets its contract: in the month, in the month before, in the year before.
use Prim.Native.Nat.{ℕ, ◌-◌}
use mathlib.Core.Path.{◌≡◌, ap, ◌∙◌}
use mathlib.Core.Bool.{true}
use Rattle.gregorian.specs.Calendar.{date, is_date_of}
use Rattle.gregorian.specs.declared.Date.{Date}
use Rattle.gregorian.proofs.Laws.{DateExists, is-date}
use Rattle.gregorian.proofs.DaySteps.{before-in-month, before-month, before-year, year-2}
use Rattle.gregorian.proofs.days.date_before.Goals as goal

exists : (t : Date) → is_date_of t ≡ true → DateExists t
exists t h = (is-date _ _ _ h).exists

pub returns-then-date-gt1 : goal.returns-then-date-gt1
returns-then-date-gt1 c = before-in-month _ (exists c.args.date c.requires.0) c.if-date-gt1.true

pub returns-then-date-gt1-2 : goal.returns-then-date-gt1-2
returns-then-date-gt1-2 c =
    let t = c.args.date in
    ap (λ (d : ℕ). date t.year (t.month - 1) d) c.days_in_month.ensures ∙ before-month t (exists t c.requires.0) c.if-date-gt1.false c.if-date-gt1-2.true

pub overflow_sub-result-2 : goal.overflow_sub-result-2
overflow_sub-result-2 c = (exists c.args.date c.requires.0).y-low

pub returns : goal.returns
returns c =
    let t = c.args.date in
    let x = exists t c.requires.0 in
    before-year t x c.if-date-gt1.false c.if-date-gt1-2.false (year-2 t x c.if-date-gt1.false c.if-date-gt1-2.false c.requires.1)
