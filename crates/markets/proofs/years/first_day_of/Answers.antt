-- `markets::years::first_day_of` meets its contract.
use mathlib.Core.Path.{refl}
use Rattle.markets.specs.Years.{first_day_of}
use Rattle.markets.proofs.years.first_day_of.Goals as goal

pub returns : goal.returns
unfolding first_day_of
returns c = refl
