-- The years that are answered, and the days at which a search ends.
-- Assumes nothing.
use Prim.Native.Nat.{ℕ, ◌≤◌}
use mathlib.Core.Path.{◌≡◌, refl}
use mathlib.Core.Bool.{true}
use lib.Dec.{leb}
use native.Mathlib.Omega.{arith}
use borrow.Author.Tests.{leb-true, le-leb}
use Rattle.gregorian.specs.Calendar.{first_day, last_day}
use Rattle.gregorian.proofs.Tests.{and_left, and_right}
use Rattle.markets.specs.Years.{min_year, max_year, is_supported, first_day_of, last_day_of}

pub supported-years : (y : ℕ) → is_supported y ≡ true → (min_year ≤ y) × (y ≤ max_year)
unfolding is_supported
supported-years y e = (leb-true min_year y (and_left (leb min_year y) _ e), leb-true y max_year (and_right (leb min_year y) _ e))

pub years-supported : (y : ℕ) → min_year ≤ y → y ≤ max_year → is_supported y ≡ true
unfolding is_supported
years-supported y l h = simp (le-leb min_year y l, le-leb y max_year h)

-- A search looks at all days of years 1 to 9999.
pub all-days : (market : ℕ) → (first_day_of market ≡ first_day) × (last_day_of market ≡ last_day)
unfolding first_day_of last_day_of
all-days market = (refl, refl)

-- So it looks at none outside them.
pub searched-days : (market : ℕ) → (first_day ≤ first_day_of market) × (last_day_of market ≤ last_day)
searched-days market = let all = all-days market in (omega (arith, all.0), omega (arith, all.1))
