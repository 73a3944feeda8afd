-- `utils::easter::moon_days` meets its contract: no difference falls below 0, and the rest by 30 is at most 29.
use mathlib.Core.Path.{refl}
use Rattle.utils.specs.Easter.{moon_days}
use Rattle.utils.proofs.EasterLaws.{g-difference, rest_30}
use Rattle.utils.proofs.easter.moon_days.Goals as goal

pub overflow_sub-result-2 : goal.overflow_sub-result-2
overflow_sub-result-2 c = g-difference c.args.a c.args.b

pub returns : goal.returns
unfolding moon_days
returns c = (refl, rest_30 _)
