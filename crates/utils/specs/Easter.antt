-- Easter as src/utils/easter.rs has it: docs/SCOPE.md [easter]. Assumes nothing.
use Rattle.std.specs.Prelude.{ℕ, ◌+◌, ◌-◌, ◌*◌, ◌/◌, ◌%◌, cond, ◌&&◌, leb, Option, Some, None, option_map}
use Rattle.gregorian.specs.Calendar.{last_year, day_number}

-- h, from a and b: the full moon is h days after 21 March, or a day less under the exceptions of the epact
unfoldable pub moon_days : ℕ → ℕ → ℕ
moon_days a b =
    let d = b / 4 in
    let f = (b + 8) / 25 in
    let g = (b - f + 1) / 3 in
    (19 * a + b - d - g + 15) % 30

-- The Anonymous Gregorian (Meeus/Jones/Butcher) algorithm, in the Rust's letters: Easter Sunday's day number. No difference
-- falls below 0: the code has the same ones on u32, and its proof shows each.
unfoldable pub easter : ℕ → ℕ
easter year =
    let a = year % 19 in
    let b = year / 100 in
    let c = year % 100 in
    let e = b % 4 in
    let h = moon_days a b in
    let i = c / 4 in
    let k = c % 4 in
    let l = (32 + 2 * e + 2 * i - h - k) % 7 in
    let m = (a + 11 * h + 22 * l) / 451 in
    let month = (h + l - 7 * m + 114) / 31 in
    let day = (h + l - 7 * m + 114) % 31 + 1 in
    day_number year month day

-- calculate_easter; None outside years 1 to 9999 (added)
unfoldable pub calculate_easter : ℕ → Option ℕ
calculate_easter year = cond (leb 1 year && leb year last_year) (Some (easter year)) None

-- `calculate_easter(year)? - Duration::days(2)`
unfoldable pub calculate_good_friday : ℕ → Option ℕ
calculate_good_friday year = option_map (λ n. n - 2) (calculate_easter year)

-- `calculate_easter(year)? + Duration::days(1)`
unfoldable pub calculate_easter_monday : ℕ → Option ℕ
calculate_easter_monday year = option_map (λ n. n + 1) (calculate_easter year)
