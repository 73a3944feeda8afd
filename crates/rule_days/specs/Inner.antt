-- Inner: no exported contract and no claim rests on these. The holiday rules by months [month-first], days that a rule need not be asked
-- about, and days that every year has. Assumes nothing.
use Rattle.std.specs.Prelude.{ℕ, zero, suc, Bool, true, false, cond, ◌&&◌, ◌||◌, List, [], ◌∷◌, leb, eqb, get_or}
use Rattle.gregorian.specs.Calendar.{month_lengths}
use Rattle.gregorian.specs.declared.Date.{Date}

-- ---- rules by months

-- the months that the holiday of a rule can fall in, and whether it is the day that is asked about
pub record Rule : Type 0 where
  pub months : List ℕ
  pub test : Bool

-- a month is one of these
abbrev pub is_one_of : List ℕ → ℕ → Bool
is_one_of [] month = false
is_one_of (m ∷ ms) month = eqb month m || is_one_of ms month

-- a rule of one month, and one of two
abbrev pub on : ℕ → Bool → Rule
on month test = record { months = month ∷ []; test = test }

abbrev pub on_either : ℕ → ℕ → Bool → Rule
on_either month other test = record { months = month ∷ other ∷ []; test = test }

-- whether the day is a holiday of the month, by its rules alone, or the test before them holds
abbrev pub any_from : ℕ → Bool → List Rule → Bool
any_from month before [] = before
any_from month before (r ∷ rs) = any_from month (cond (is_one_of r.months month) (before || r.test) before) rs

abbrev pub any_of : ℕ → List Rule → Bool
any_of month rules = any_from month false rules

-- ---- days

-- day n is from `first` to `last`, both included
abbrev pub is_between : ℕ → ℕ → ℕ → Bool
is_between first last n = leb first n && leb n last

-- a date is from 20 March to 26 April, as Good Friday and Easter Monday always are
abbrev pub is_around_easter : Date → Bool
is_around_easter t = eqb t.month 3 && leb 20 t.day || eqb t.month 4 && leb t.day 26

-- a month and a day that every year has
abbrev pub every_year_has : ℕ → ℕ → Bool
every_year_has month day = leb 1 month && leb month 12 && leb 1 day && leb day (get_or (month_lengths 0) month 0)

-- the first k numbers of a list are from low to high
abbrev pub every_between : ℕ → ℕ → List ℕ → ℕ → Bool
every_between low high list zero = true
every_between low high list (suc k) = leb low (get_or list k 0) && leb (get_or list k 0) high && every_between low high list k
