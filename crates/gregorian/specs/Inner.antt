-- Inner: no exported contract and no claim rests on these. Facts about dates and their parts. Assumes nothing.
use Rattle.std.specs.Prelude.{ℕ, ◌-◌, ◌≤◌, ◌<◌}
use Rattle.gregorian.specs.Calendar.{month_length, total, last_year}

-- day d of month m of year y exists, in any year from 1 on
pub record Exists (y m d : ℕ) : Type 0 where
  pub y-low : 1 ≤ y
  pub m-low : 1 ≤ m
  pub m-high : m ≤ 12
  pub d-low : 1 ≤ d
  pub d-high : d ≤ month_length y m

-- `is_date` as facts: proofs/Laws.antt, `is-date` and `date-is`
pub record IsDate (y m d : ℕ) : Type 0 where
  pub exists : Exists y m d
  pub y-high : y ≤ last_year

-- of parts of lengths f 1, f 2, .., f most, laid end to end, number k is the part that holds place n
pub record Within (f : ℕ → ℕ) (most n k : ℕ) : Type 0 where
  pub low : 1 ≤ k
  pub high : k ≤ most
  pub starts : total f (k - 1) < n
  pub ends : n ≤ total f k
