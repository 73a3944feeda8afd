-- `markets::years::is_supported` meets its contract: both ways through its first test.
use mathlib.Core.Path.{ap, sym}
use mathlib.Core.Bool.{Bool, ◌&&◌}
use lib.Dec.{leb}
use native.Mathlib.Omega.{arith}
use borrow.Author.Tests.{le-leb, lt-leb}
use Rattle.markets.specs.Years.{min_year, max_year, is_supported}
use Rattle.markets.proofs.years.is_supported.Goals as goal

pub returns-then-year-ge-MIN_YEAR : goal.returns-then-year-ge-MIN_YEAR
unfolding is_supported
returns-then-year-ge-MIN_YEAR c =
    let y = c.args.year in
    ap (λ (t : Bool). t && leb y max_year) (sym (le-leb min_year y (omega arith)))

pub returns-else-year-ge-MIN_YEAR : goal.returns-else-year-ge-MIN_YEAR
unfolding is_supported
returns-else-year-ge-MIN_YEAR c = simp (lt-leb min_year c.args.year (omega arith))
