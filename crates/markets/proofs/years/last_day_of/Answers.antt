-- `markets::years::last_day_of` meets its contract.
use mathlib.Core.Path.{refl}
use Rattle.markets.specs.Years.{last_day_of}
use Rattle.markets.proofs.years.last_day_of.Goals as goal

pub returns : goal.returns
unfolding last_day_of
returns c = refl
