-- `gregorian::weekday` meets its contract: the remainder is taken first, so that no sum wraps.
use native.Mathlib.Omega.{arith}
use Rattle.gregorian.specs.Calendar.{weekday_of}
use Rattle.gregorian.proofs.weekday.Goals as goal

pub returns : goal.returns
unfolding weekday_of
returns c = omega arith
