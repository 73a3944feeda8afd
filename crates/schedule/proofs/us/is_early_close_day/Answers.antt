-- `schedule::us::is_early_close_day` meets its contract: the day after the date's is a number.
use native.Mathlib.Omega.{arith}
use Rattle.gregorian.proofs.Laws.{number-range}
use Rattle.schedule.proofs.us.is_early_close_day.Goals as goal

pub overflow_add-n : goal.overflow_add-n
overflow_add-n c = omega (arith, c.day_number-n.ensures, number-range _ _ _ c.requires)
