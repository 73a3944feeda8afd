-- `utils::easter::calculate_good_friday` meets its contract: Easter is late enough in its year to go back from.
use mathlib.Core.Path.{sym}
use native.Mathlib.Omega.{arith}
use Rattle.utils.proofs.EasterLaws.{easter-day}
use Rattle.utils.proofs.easter.calculate_good_friday.Goals as goal

pub overflow_sub-result : goal.overflow_sub-result
overflow_sub-result c = omega (arith, easter-day _ _ (sym c.in_ok-easter.ensures))
