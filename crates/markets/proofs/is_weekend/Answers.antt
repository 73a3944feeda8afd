-- `markets::is_weekend` meets its contract: both tests of the weekday.
use Prim.Native.Nat.{ℕ}
use mathlib.Core.Path.{ap}
use mathlib.Core.Bool.{◌||◌}
use lib.Dec.{eqb}
use Rattle.gregorian.specs.Calendar.{saturday, sunday}
use Rattle.markets.specs.Markets.{is_weekend}
use Rattle.markets.proofs.is_weekend.Goals as goal

pub returns : goal.returns
unfolding is_weekend
returns c = ap (λ (w : ℕ). eqb w saturday || eqb w sunday) c.weekday-weekday.ensures
