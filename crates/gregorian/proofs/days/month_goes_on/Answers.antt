-- `gregorian::days::month_goes_on` meets its contract: before the 28th, and from then on.
use mathlib.Core.Path.{sym, ◌∙◌}
use native.Mathlib.Omega.{arith}
use borrow.Author.Tests.{lt-ltb}
use Rattle.gregorian.proofs.Laws.{is-date, month-low}
use Rattle.gregorian.proofs.days.month_goes_on.Goals as goal

pub returns-then-date-lt28 : goal.returns-then-date-lt28
returns-then-date-lt28 c =
    let t = c.args.date in
    let x = (is-date t.year t.month t.day c.requires).exists in
    lt-ltb t.day 28 c.if-date-lt28.true ∙ sym (lt-ltb t.day _ (omega (arith, month-low t.year t.month x.m-low x.m-high)))
