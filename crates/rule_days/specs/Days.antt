-- Lists of days in the place of the Rust's HashSet<NaiveDate>, and the move that most markets share: docs/SCOPE.md
-- [weekend-moves]. A day is its day number. Assumes nothing.
use Rattle.std.specs.Prelude.{ℕ, ◌+◌, Bool, false, cond, ◌||◌, List, [], ◌∷◌, ◌++◌, eqb, Option, Some, None}
use Rattle.gregorian.specs.Calendar.{saturday, sunday, weekday_of}

-- `holidays.contains(&n)`
unfoldable pub contains : List ℕ → ℕ → Bool
contains [] n = false
contains (d ∷ ds) n = eqb n d || contains ds n

-- `holidays.insert(n)`
unfoldable pub insert : List ℕ → ℕ → List ℕ
insert holidays n = holidays ++ n ∷ []

-- `if test { holidays.insert(n) }`
unfoldable pub insert_if : List ℕ → Bool → ℕ → List ℕ
insert_if holidays test n = cond test (insert holidays n) holidays

-- `if let Some(n) = day { holidays.insert(n) }`, and `if let Ok(n)` for Good Friday and Easter Monday
unfoldable pub insert_day : List ℕ → Option ℕ → List ℕ
insert_day holidays (Some n) = insert holidays n
insert_day holidays None = holidays

-- day n is the answer
abbrev pub is_day : Option ℕ → ℕ → Bool
is_day (Some d) n = eqb n d
is_day None n = false

-- `match n.weekday() { Sat => s, Sun => t, _ => n }`
unfoldable pub match_weekend : ℕ → ℕ → ℕ → ℕ
match_weekend n s t = cond (eqb (weekday_of n) saturday) s (cond (eqb (weekday_of n) sunday) t n)

-- Saturday +2, Sunday +1: adjust_for_weekend, adjust_for_weekend_uk, and the `match` of new_years_day, juneteenth and
-- christmas_day.
abbrev pub adjust_for_weekend : ℕ → ℕ
adjust_for_weekend n = match_weekend n (n + 2) (n + 1)
