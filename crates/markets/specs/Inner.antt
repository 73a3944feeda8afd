-- Inner: no exported contract and no claim rests on these. The holidays of each market by the months that they can fall in
-- [month-first]. Assumes nothing.
use Rattle.std.specs.Prelude.{ℕ, ◌+◌, Bool, cond, ◌&&◌, ◌||◌, List, [], ◌∷◌, leb, eqb, get_or, pos}
use Rattle.gregorian.specs.Calendar.{monday, friday, saturday, sunday, day_number, weekday_of}
use Rattle.utils.specs.Weekday.{nth_weekday_of_month, minus}
use Rattle.utils.specs.Easter.{calculate_good_friday, calculate_easter_monday}
use Rattle.rule_days.specs.Days.{is_day, adjust_for_weekend}
use Rattle.rule_days.specs.Inner.{Rule, on, on_either}
use Rattle.japan.specs.Inner.{japan_rules}
use Rattle.markets.specs.Us.{new_years_day, mlk_day, presidents_day, memorial_day, independence_day, labor_day, thanksgiving_day, juneteenth, christmas_day}
use Rattle.markets.specs.Canada.{family_day, victoria_day, boxing_day}

-- whether day n is a holiday of the year, by the insertions of get_us_holidays in their order
abbrev pub us_rules : ℕ → ℕ → List Rule
us_rules year n =
    on 1 (eqb n (new_years_day year))
    ∷ on 7 (eqb n (independence_day year))
    ∷ on 12 (eqb n (christmas_day year))
    ∷ on 6 (leb 2021 year && eqb n (juneteenth year))
    ∷ on 1 (is_day (mlk_day year) n)
    ∷ on 2 (is_day (presidents_day year) n)
    ∷ on 5 (is_day (memorial_day year) n)
    ∷ on 9 (is_day (labor_day year) n)
    ∷ on 11 (is_day (thanksgiving_day year) n)
    ∷ on_either 3 4 (is_day (calculate_good_friday year) n)
    ∷ []

-- n is one of the two days of December, from the day number of Christmas Day and its weekday: those that Christmas Day and
-- add_boxing_day insert
abbrev pub is_one_of_two : ℕ → ℕ → ℕ → Bool
is_one_of_two n christmas weekday =
    cond (eqb weekday friday) (eqb n christmas || eqb n (christmas + 3))
    (cond (eqb weekday saturday) (eqb n (christmas + 2) || eqb n (christmas + 3))
    (cond (eqb weekday sunday) (eqb n (christmas + 1) || eqb n (christmas + 2))
    (eqb n christmas || eqb n (christmas + 1))))

unfoldable pub is_christmas_or_boxing_day : ℕ → ℕ → Bool
is_christmas_or_boxing_day year n = let christmas = day_number year 12 25 in is_one_of_two n christmas (weekday_of christmas)

-- by those of get_uk_holidays, its three days of December together
abbrev pub uk_rules : ℕ → ℕ → List Rule
uk_rules year n =
    on 1 (eqb n (adjust_for_weekend (day_number year 1 1)))
    ∷ on_either 3 4 (is_day (calculate_good_friday year) n)
    ∷ on_either 3 4 (is_day (calculate_easter_monday year) n)
    ∷ on 5 (is_day (nth_weekday_of_month year 5 monday (pos 1)) n)
    ∷ on 5 (is_day (nth_weekday_of_month year 5 monday (minus 1)) n)
    ∷ on 8 (is_day (nth_weekday_of_month year 8 monday (minus 1)) n)
    ∷ on 12 (is_christmas_or_boxing_day year n)
    ∷ []

-- by those of get_canada_holidays
abbrev pub canada_rules : ℕ → ℕ → List Rule
canada_rules year n =
    on 1 (eqb n (adjust_for_weekend (day_number year 1 1)))
    ∷ on 2 (is_day (family_day year) n)
    ∷ on_either 3 4 (is_day (calculate_good_friday year) n)
    ∷ on 5 (eqb n (victoria_day year))
    ∷ on 7 (eqb n (adjust_for_weekend (day_number year 7 1)))
    ∷ on 9 (is_day (nth_weekday_of_month year 9 monday (pos 1)) n)
    ∷ on 10 (is_day (nth_weekday_of_month year 10 monday (pos 2)) n)
    ∷ on 12 (eqb n (adjust_for_weekend (day_number year 12 25)))
    ∷ on 12 (eqb n (boxing_day year))
    ∷ []

-- the rules of each market, in the order of the codes; any other code has none
abbrev pub rules_by_code : List (ℕ → ℕ → List Rule)
rules_by_code = us_rules ∷ us_rules ∷ uk_rules ∷ japan_rules ∷ canada_rules ∷ []

abbrev pub rules : ℕ → ℕ → ℕ → List Rule
rules market = get_or rules_by_code market (λ year n. [])
