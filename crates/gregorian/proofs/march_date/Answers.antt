-- `gregorian::march_date` meets its contract: March, and April from its 32nd day on.
use mathlib.Core.Path.{refl}
use native.Mathlib.Omega.{arith}
use Rattle.gregorian.specs.Calendar.{total, month_length, day_number}
use Rattle.gregorian.proofs.Laws.{by_number}
use Rattle.gregorian.proofs.march_date.Goals as goal

pub returns-then-day-lt32 : goal.returns-then-day-lt32
unfolding month_length
returns-then-day-lt32 c =
    by_number _ 3 _ _ (record { y-low = c.requires.0; m-low = omega arith; m-high = omega arith; d-low = c.requires.2; d-high = omega arith }) refl

pub returns-else-day-lt32 : goal.returns-else-day-lt32
unfolding day_number total month_length
returns-else-day-lt32 c =
    by_number _ 4 _ _ (record { y-low = c.requires.0; m-low = omega arith; m-high = omega arith; d-low = omega arith; d-high = omega arith }) (omega arith)
