-- Inner: no exported contract and no claim rests on these. The holidays of TSE by the months that they can fall in [month-first], by a
-- shorter account of docs/SCOPE.md [tse-holidays]. Assumes nothing.
use Rattle.std.specs.Prelude.{ℕ, ◌+◌, Bool, false, ◌&&◌, ◌||◌, List, [], ◌∷◌, eqb, pos, Option, Some, None}
use Rattle.gregorian.specs.Calendar.{monday, tuesday, thursday, sunday, day_number, weekday_of}
use Rattle.utils.specs.Weekday.{nth_weekday_of_month}
use Rattle.rule_days.specs.Days.{is_day}
use Rattle.rule_days.specs.Inner.{Rule, on}
use Rattle.japan.specs.Japan.{calculate_vernal_equinox, calculate_autumnal_equinox}

-- [tse-substitute]: n is the date or, if that is a Sunday, the day after it
abbrev pub is_with_substitute : ℕ → ℕ → Bool
is_with_substitute date n = eqb n date || eqb (weekday_of date) sunday && eqb n (date + 1)

abbrev pub is_day_with_substitute : Option ℕ → ℕ → Bool
is_day_with_substitute (Some date) n = is_with_substitute date n
is_day_with_substitute None n = false

-- [tse-golden-week]: 2 May if the 3rd is a Tuesday; 6 May if the 5th is a Thursday or the 4th a Sunday. Where the Rust adds 6 May for a
-- Sunday the 5th, that is already its substitute.
unfoldable pub is_bridge_day : ℕ → ℕ → Bool
is_bridge_day year n =
    eqb (weekday_of (day_number year 5 3)) tuesday && eqb n (day_number year 5 2)
    || eqb (weekday_of (day_number year 5 5)) thursday && eqb n (day_number year 5 6)
    || eqb (weekday_of (day_number year 5 4)) sunday && eqb n (day_number year 5 6)

-- whether day n is a holiday of the year, by the insertions of get_japan_holidays in their order
abbrev pub japan_rules : ℕ → ℕ → List Rule
japan_rules year n =
    on 1 (is_with_substitute (day_number year 1 1) n)
    ∷ on 1 (is_with_substitute (day_number year 1 2) n)
    ∷ on 1 (is_with_substitute (day_number year 1 3) n)
    ∷ on 1 (is_day (nth_weekday_of_month year 1 monday (pos 2)) n)
    ∷ on 2 (is_with_substitute (day_number year 2 11) n)
    ∷ on 2 (is_with_substitute (day_number year 2 23) n)
    ∷ on 3 (is_day_with_substitute (calculate_vernal_equinox year) n)
    ∷ on 4 (is_with_substitute (day_number year 4 29) n)
    ∷ on 5 (is_with_substitute (day_number year 5 3) n)
    ∷ on 5 (is_with_substitute (day_number year 5 5) n)
    ∷ on 5 (eqb n (day_number year 5 4))
    ∷ on 5 (is_bridge_day year n)
    ∷ on 7 (is_day (nth_weekday_of_month year 7 monday (pos 3)) n)
    ∷ on 8 (is_with_substitute (day_number year 8 11) n)
    ∷ on 9 (is_day (nth_weekday_of_month year 9 monday (pos 3)) n)
    ∷ on 9 (is_day_with_substitute (calculate_autumnal_equinox year) n)
    ∷ on 10 (is_day (nth_weekday_of_month year 10 monday (pos 2)) n)
    ∷ on 11 (is_with_substitute (day_number year 11 3) n)
    ∷ on 11 (is_with_substitute (day_number year 11 23) n)
    ∷ on 12 (eqb n (day_number year 12 31))
    ∷ []
