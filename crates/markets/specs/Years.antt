-- The years that are answered, and the days at which a search for a neighbour ends: docs/SCOPE.md [year-check], [next], [previous].
-- Assumes nothing.
use Rattle.std.specs.Prelude.{ℕ, Bool, ◌&&◌, leb}
use Rattle.gregorian.specs.Calendar.{first_day, last_day, day_number}

-- MIN_YEAR and MAX_YEAR
abbrev pub min_year : ℕ
min_year = 2020

abbrev pub max_year : ℕ
max_year = 2030

-- the first day of these years and the last
abbrev pub min_day : ℕ
min_day = day_number min_year 1 1

abbrev pub max_day : ℕ
max_day = day_number max_year 12 31

-- [year-check]: one of these years
unfoldable pub is_supported : ℕ → Bool
is_supported year = leb min_year year && leb year max_year

-- [previous], [next]: the first and the last day that the search of a market looks at, the same for all of them
unfoldable pub first_day_of : ℕ → ℕ
first_day_of market = first_day

unfoldable pub last_day_of : ℕ → ℕ
last_day_of market = last_day
