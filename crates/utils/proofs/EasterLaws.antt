-- Easter by the Anonymous Gregorian algorithm: a date, from 22 March to 25 April.
-- Assumes nothing.
use Rattle.std.proofs.Common.{Option, Some, None, option_map}
use Prim.Native.Nat.{ℕ, ◌+◌, ◌-◌, ◌*◌, ◌/◌, ◌%◌, ◌≤◌, ◌<◌}
use mathlib.Core.Path.{◌≡◌, refl, ap, ap₂, ◌∙◌}
use mathlib.Core.Bool.{true, ◌&&◌}
use lib.Dec.{leb}
use native.Mathlib.Omega.{arith}
use native.Mathlib.Decide.{dec_lt}
use borrow.Author.Tests.{leb-true, le-leb}
use Rattle.gregorian.specs.Calendar.{month_length, total, day_number, last_year, last_day, is_date}
use Rattle.gregorian.proofs.Tests.{and_left, and_right}
use Rattle.gregorian.proofs.Laws.{date-by, number-range}
use Rattle.utils.specs.Easter.{moon_days, easter, calculate_easter}
use Rattle.utils.proofs.WeekdayLaws.{when-day}

pub rest_30 : (n : ℕ) → n % 30 ≤ 29
rest_30 n = omega arith

rest-7 : (n : ℕ) → n % 7 ≤ 6
rest-7 n = omega arith

-- the last difference of h does not fall below 0
pub g-difference : (a b : ℕ) → (b - (b + 8) / 25 + 1) / 3 ≤ 19 * a + b - b / 4
g-difference a b = omega (arith, less ((b + 8) / 25), third)
  where
    less : (f : ℕ) → (b - f + 1) / 3 ≤ (b + 1) / 3
    less f = omega arith

    third : (b + 1) / 3 + b / 4 ≤ b
    third = omega arith

moon-high : (a b : ℕ) → moon_days a b ≤ 29
unfolding moon_days
moon-high a b = rest_30 _

-- whatever is taken off, h + l is at most 35
at-most-35 : (h q x : ℕ) → h ≤ 29 → h + q % 7 - x ≤ 35
at-most-35 h q x k = omega arith

-- The days from 22 March to Easter, h + l - 7 * m, from the year and h: at most 34.
unfoldable pub days_after : ℕ → ℕ → ℕ
days_after y h =
    let a = y % 19 in
    let c = y % 100 in
    let l = (32 + 2 * (y / 100 % 4) + 2 * (c / 4) - h - c % 4) % 7 in
    h + l - 7 * ((a + 11 * h + 22 * l) / 451)

abbrev pub easter_days : ℕ → ℕ
easter_days y = days_after y (moon_days (y % 19) (y / 100))

below-35 : (a h l : ℕ) → h ≤ 29 → l ≤ 6 → h + l - 7 * ((a + 11 * h + 22 * l) / 451) ≤ 34
below-35 a h l p q = omega arith

pub days-high : (y : ℕ) → easter_days y ≤ 34
unfolding days_after
days-high y = below-35 _ _ _ (moon-high _ _) (rest-7 _)

-- The month and the day that the algorithm makes of x days: a date, x days after 22 March.
march : (x : ℕ) → x < 10 → ((x + 114) / 31 ≡ 3) × ((x + 114) % 31 + 1 ≡ x + 22)
march x h = omega arith

april : (x : ℕ) → 10 ≤ x → x ≤ 35 → ((x + 114) / 31 ≡ 4) × ((x + 114) % 31 + 1 ≡ x - 9)
april x l h = omega arith

days-date : (y x : ℕ) → 1 ≤ y → y ≤ last_year → x ≤ 35 → is_date y ((x + 114) / 31) ((x + 114) % 31 + 1) ≡ true
unfolding month_length
days-date y x l h k = elim (dec_lt x 10) [
  | yes a ↦ let e = march x a in rw (e.0, e.1) (date-by y 3 (x + 22) (l, h) (omega arith) (omega arith))
  | no a ↦ let e = april x (omega arith) k in rw (e.0, e.1) (date-by y 4 (x - 9) (l, h) (omega arith) (omega arith))
]

days-number : (y x : ℕ) → x ≤ 35 → day_number y ((x + 114) / 31) ((x + 114) % 31 + 1) ≡ day_number y 3 22 + x
unfolding day_number total month_length
days-number y x k = elim (dec_lt x 10) [
  | yes a ↦ let e = march x a in ap₂ (day_number y) e.0 e.1 ∙ omega arith
  | no a ↦ let e = april x (omega arith) k in ap₂ (day_number y) e.0 e.1 ∙ omega arith
]

pub easter-days : (y : ℕ) → easter y ≡ day_number y 3 22 + easter_days y
unfolding easter days_after
easter-days y = days-number y _ (at-most-35 _ _ _ (moon-high _ _))

-- Easter lies from 22 March to 25 April.
april-25 : (y : ℕ) → day_number y 4 25 ≡ day_number y 3 22 + 34
unfolding day_number total month_length
april-25 y = omega arith

pub easter-range : (y : ℕ) → (day_number y 3 22 ≤ easter y) × (easter y ≤ day_number y 4 25)
easter-range y = omega (arith, easter-days y, days-high y, april-25 y)

-- What an answer of calculate_easter says, and where there is one.
day-low : (y m d : ℕ) → d ≤ day_number y m d
unfolding day_number
day-low y m d = omega arith

pub record EasterDay (y n : ℕ) : Type 0 where
  pub is-easter : easter y ≡ n
  pub y-low : 1 ≤ y
  pub y-high : y ≤ last_year
  pub low : 22 ≤ n
  pub high : n ≤ last_day

pub easter-day : (y n : ℕ) → calculate_easter y ≡ Some n → EasterDay y n
unfolding calculate_easter easter days_after
easter-day y n e =
    let c = when-day (leb 1 y && leb y last_year) (Some (easter y)) n e in
    let l = leb-true 1 y (and_left (leb 1 y) _ c.0) in
    let h = leb-true y last_year (and_right (leb 1 y) _ c.0) in
    let q : easter y ≡ n = cc c.1 in
    let r = number-range y _ _ (days-date y (easter_days y) l h (at-most-35 _ _ _ (moon-high _ _))) in
    record {
      is-easter = q;
      y-low = l;
      y-high = h;
      low = omega (arith, q, day-low y 3 22, easter-range y);
      high = omega (arith, q, r);
    }

pub map-day-same : (f g : ℕ → ℕ) (r : Option ℕ) → ((n : ℕ) → f n ≡ g n) → option_map f r ≡ option_map g r
map-day-same f g (Some n) e = ap Some (e n)
map-day-same f g None e = refl

pub map-day-id : (r : Option ℕ) → option_map (λ n. n) r ≡ r
map-day-id (Some n) = refl
map-day-id None = refl

pub easter-found : (y : ℕ) → 1 ≤ y → y ≤ last_year → calculate_easter y ≡ Some (easter y)
unfolding calculate_easter
easter-found y l h = simp (le-leb 1 y l, le-leb y last_year h)
