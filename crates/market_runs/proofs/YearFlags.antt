-- Which days of whole years trade, one year after the other, in a form that can be computed.
-- Assumes nothing.
use Prim.Native.Nat.{ℕ, zero, suc, ◌+◌, ◌-◌, ◌≤◌, ◌<◌}
use mathlib.Core.Path.{◌≡◌, sym, ap, ap₂, ◌∙◌}
use mathlib.Core.Bool.{Bool, not, ◌&&◌}
use mathlib.Core.List.{List, [], ◌++◌, map, map-append}
use native.Mathlib.Omega.{arith}
use Rattle.gregorian.specs.Calendar.{total, year_length, last_year, date_of}
use Rattle.gregorian.proofs.Total.{total-next, total_mono}
use Rattle.gregorian.proofs.Formulas.{year-part}
use Rattle.rule_days.specs.Days.{contains}
use Rattle.markets.specs.Markets.{holidays, is_weekend, is_holiday, is_trading_day}
use Rattle.ranges.specs.Ranges.{days_from}
use Rattle.ranges.proofs.Lists.{from-none, from-split}
use Rattle.ranges.proofs.Items.{every-from, map_same}
use Rattle.market_runs.proofs.ClosedForms.{closed_holidays, closed-holidays}

-- whether each of the days trades, where these are the holidays
unfoldable pub trading_flags : List ℕ → List ℕ → List Bool
trading_flags ds = map (λ n. not (contains ds n) && not (is_weekend n))

-- the days before year y
abbrev pub before : ℕ → ℕ
before y = total year_length (y - 1)

pub year-low : (y : ℕ) → 1 ≤ suc y
year-low y = omega arith

pub year-high : (k y : ℕ) → y + suc k ≤ suc last_year → y ≤ last_year
year-high k y h = omega arith

pub years-high : (k y : ℕ) → y + suc k ≤ suc last_year → suc y + k ≤ suc last_year
years-high k y h = omega arith

-- whether each of the days of k years from y on trades
unfoldable pub year_flags : (market k y : ℕ) → 1 ≤ y → y + k ≤ suc last_year → List Bool
year_flags market zero y l h = []
year_flags market (suc k) y l h =
    trading_flags (closed_holidays market y l (year-high k y h)) (days_from (suc (before y)) (year_length y))
    ++ year_flags market k (suc y) (year-low y) (years-high k y h)

-- a day of the year y
pub in-year : (n y : ℕ) → 1 ≤ y → y ≤ last_year → before y < n → n ≤ total year_length y → (date_of n).year ≡ y
in-year n y l h s e = sym (year-part n y (omega arith) (record { low = l; high = h; starts = s; ends = e })).0

one-year : (market y : ℕ) (l : 1 ≤ y) (h : y ≤ last_year) → map (is_trading_day market) (days_from (suc (before y)) (year_length y)) ≡ trading_flags (closed_holidays market y l h) (days_from (suc (before y)) (year_length y))
unfolding is_trading_day is_holiday trading_flags
one-year market y l h =
    let next = total-next year_length y l in
    map_same _ _ (days_from (suc (before y)) (year_length y))
    (every-from _ (year_length y) (suc (before y))
    (λ n s e. ap (λ (ds : List ℕ). not (contains ds n) && not (is_weekend n))
    (ap (holidays market) (in-year n y l h s (omega (arith, next))) ∙ closed-holidays market y l h)))

-- The flags are those of all days from the first of year y to the last before year y + k.
pub year-flags : (market k y : ℕ) (l : 1 ≤ y) (h : y + k ≤ suc last_year) → map (is_trading_day market) (days_from (suc (before y)) (before (y + k) - before y)) ≡ year_flags market k y l h
unfolding year_flags
year-flags market zero y l h =
    let same : y + 0 ≡ y = omega arith in
    let none : before (y + 0) - before y ≡ 0 = omega (arith, ap before same) in
    ap (λ (k : ℕ). map (is_trading_day market) (days_from (suc (before y)) k)) none ∙ ap (map (is_trading_day market)) (from-none (suc (before y)))
year-flags market (suc k) y l h =
    let same : suc y - 1 ≡ y = omega arith in
    let later : y + suc k - 1 ≡ suc y + k - 1 = omega arith in
    let up = total_mono year_length (suc y - 1) (suc y + k - 1) (omega arith) in
    let next = total-next year_length y l in
    let now = ap (total year_length) same in
    let then = ap (total year_length) later in
    let count : before (y + suc k) - before y ≡ year_length y + (before (suc y + k) - before (suc y)) = omega (arith, up, next, now, then) in
    let first : suc (before y) + year_length y ≡ suc (before (suc y)) = omega (arith, next, now) in
    let rest : ℕ = before (suc y + k) - before (suc y) in
    ap (λ (i : ℕ). map (is_trading_day market) (days_from (suc (before y)) i)) count
    ∙ ap (map (is_trading_day market)) (from-split (year_length y) rest (suc (before y)))
    ∙ map-append (is_trading_day market) (days_from (suc (before y)) (year_length y)) (days_from (suc (before y) + year_length y) rest)
    ∙ ap₂ (λ (p q : List Bool). p ++ q) (one-year market y l (year-high k y h))
    (ap (λ (i : ℕ). map (is_trading_day market) (days_from i rest)) first ∙ year-flags market k (suc y) (year-low y) (years-high k y h))
