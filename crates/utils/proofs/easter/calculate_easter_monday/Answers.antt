-- `utils::easter::calculate_easter_monday` meets its contract: Easter is in years 1 to 9999, so the sum fits.
use mathlib.Core.Path.{sym}
use native.Mathlib.Omega.{arith}
use Rattle.utils.proofs.EasterLaws.{easter-day}
use Rattle.utils.proofs.easter.calculate_easter_monday.Goals as goal

pub overflow_add-result : goal.overflow_add-result
overflow_add-result c = omega (arith, easter-day _ _ (sym c.in_ok-easter.ensures))
