-- `utils::weeks_before` meets its contract: both sides of the test.
use Prim.Native.Nat.{◌*◌}
use native.Mathlib.Omega.{arith}
use borrow.Author.Tests.{lt-ltb, le-ltb}
use Rattle.utils.specs.Weekday.{weeks_before}
use Rattle.utils.proofs.weeks_before.Goals as goal

pub returns-then-day-days : goal.returns-then-day-days
unfolding weeks_before
returns-then-day-days c = simp (le-ltb (7 * c.args.k) c.args.day (omega (arith, c.if-day-days.true)))

pub returns : goal.returns
unfolding weeks_before
returns c = simp (lt-ltb (7 * c.args.k) c.args.day (omega (arith, c.if-day-days.false))) c.if_in_month.ensures
