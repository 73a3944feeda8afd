-- The nth weekday of a month, from its start or from its end, as src/utils/mod.rs has the nth and the last, with n signed by N4:
-- docs/SCOPE.md [nth-weekday], [last-weekday]. Weekdays are 0 Monday to 6 Sunday; days are day numbers. Assumes nothing.
use Rattle.std.specs.Prelude.{ℕ, zero, suc, ◌+◌, ◌-◌, ◌*◌, ◌%◌, cond, ◌&&◌, leb, ltb, eqb, ℤ, pos, negsuc, neg_ℤ, Option, Some, None, option_map, option_and_then}
use Rattle.gregorian.specs.Calendar.{last_day, is_date, day_number, date_of, weekday_of}

-- Day t if its month has the number m, in whatever year; None also past 9999-12-31 (added).
unfoldable pub if_in_month : ℕ → ℕ → Option ℕ
if_in_month m t = cond (leb t last_day && eqb (date_of t).month m) (Some t) None

-- ---- from the start

-- The first day from day s on that is a w: the Rust's first_day plus days_to_add.
unfoldable pub first_from : ℕ → ℕ → ℕ
first_from s w = s + (w + 7 - weekday_of s) % 7

-- target_date: n - 1 weeks after the first w of the month
unfoldable pub target_day : ℕ → ℕ → ℕ → ℕ → ℕ
target_day y m w n = first_from (day_number y m 1) w + 7 * (n - 1)

-- nth_weekday_of_month; None also for n = 0, a weekday above 6, and a month or a year outside (added)
unfoldable pub nth_from_start : ℕ → ℕ → ℕ → ℕ → Option ℕ
nth_from_start y m w n = cond (is_date y m 1 && leb w 6 && leb 1 n) (if_in_month m (target_day y m w n)) None

-- ---- from the end

-- The last w on or before day n, by the Rust's loop, `while last_day.weekday() != weekday { last_day -= 1 }`; 0 if there is none, which
-- no call meets.
unfoldable pub last_up_to : ℕ → ℕ → ℕ
last_up_to w zero = 0
last_up_to w (suc n) = let before = last_up_to w n in cond (eqb (weekday_of (suc n)) w) (suc n) before

-- the number of the month after month m, and the year that it is in
abbrev pub next_month : ℕ → ℕ
next_month m = cond (eqb m 12) 1 (m + 1)

abbrev pub next_year : ℕ → ℕ → ℕ
next_year y m = cond (eqb m 12) (y + 1) y

-- first_of_next: the first of the next month; None past 9999-12-31 (added)
unfoldable pub first_of_next : ℕ → ℕ → Option ℕ
first_of_next y m = cond (is_date (next_year y m) (next_month m) 1) (Some (day_number (next_year y m) (next_month m) 1)) None

-- last_weekday_of_month, from the day before first_of_next back; None also for a weekday above 6, and a month or a year
-- outside (added)
unfoldable pub last_weekday_of_month : ℕ → ℕ → ℕ → Option ℕ
last_weekday_of_month y m w =
    cond (is_date y m 1 && leb w 6) (option_map (λ n. last_up_to w (n - 1)) (first_of_next y m)) None

-- k weeks before day t, by the same comparison of the month; None also before 0001-01-01
unfoldable pub weeks_before : ℕ → ℕ → ℕ → Option ℕ
weeks_before m k t = cond (ltb (7 * k) t) (if_in_month m (t - 7 * k)) None

-- k weeks before the last w of the month
unfoldable pub weeks_before_last : ℕ → ℕ → ℕ → ℕ → Option ℕ
weeks_before_last y m w k = option_and_then (weeks_before m k) (last_weekday_of_month y m w)

-- ---- n signed

-- how far n goes either way
abbrev pub most_nth : ℕ
most_nth = 255

-- [nth-weekday]: from the start where n is above 0, back from the last w where it is below; None for 0 and beyond `most_nth`. negsuc k is
-- -(k + 1), so -1 is the last w itself.
abbrev pub nth_weekday_of_month : ℕ → ℕ → ℕ → ℤ → Option ℕ
nth_weekday_of_month y m w (pos n) = cond (leb n most_nth) (nth_from_start y m w n) None
nth_weekday_of_month y m w (negsuc k) = cond (ltb k most_nth) (weeks_before_last y m w k) None

-- -n, as a rule writes it
abbrev pub minus : ℕ → ℤ
minus n = neg_ℤ (pos n)
