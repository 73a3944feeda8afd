-- What the code's formulas come to.
-- Assumes nothing.
use Prim.Native.Nat.{ℕ, ◌+◌, ◌-◌, ◌*◌, ◌/◌, ◌%◌, ◌≤◌, ◌<◌}
use mathlib.Core.Path.{◌≡◌, ap, sym, ◌∙◌, subst}
use mathlib.Core.Bool.{Bool, true, false, cond}
use lib.Dec.{lit≤}
use lib.ListN.{get_or-eq_default}
use native.Mathlib.Omega.{arith}
use native.Mathlib.Decide.{dec_lt}
use Rattle.gregorian.specs.Calendar.{total, leap, leap_day, year_length, month_lengths, month_length, day_number, last_year, last_day, is_date, date_of, date}
use Rattle.gregorian.specs.Inner.{Exists, Within}
use Rattle.gregorian.proofs.Total.{total-next, total_mono, place-eq, upto}
use Rattle.gregorian.proofs.YearDays.{years, years-is}
use Rattle.gregorian.proofs.Laws.{is-date, unique, date-exists, number-of-date, number-high, year-of-months, day-of-year}

leap-is : (y : ℕ) (r b : Bool) → r ≡ leap y → r ≡ b → leap_day y ≡ cond b 1 0
unfolding leap_day
leap-is y r b e q = ap (λ (t : Bool). cond t 1 0) (sym e ∙ q)

leap-small : (y : ℕ) → leap_day y ≤ 1
unfolding leap_day
leap-small y = small (leap y)
  where
    small : (b : Bool) → cond b 1 0 ≤ 1
    small true = lit≤ tt
    small false = lit≤ tt

-- The two formulas of the months, and what is_leap answers: r, which is b.
pub february : (y m : ℕ) (r b : Bool) → m ≡ 2 → r ≡ leap y → r ≡ b → cond b 29 28 ≡ month_length y m
unfolding month_length
february y m r b e p q = by-leap b (leap-is y r b p q) ∙ sym (ap (month_length y) e)
  where
    by-leap : (b : Bool) → leap_day y ≡ cond b 1 0 → cond b 29 28 ≡ 28 + leap_day y
    by-leap true d = omega arith
    by-leap false d = omega arith

pub other-month : (y m : ℕ) → 1 ≤ m → m < 13 → (m ≡ 2 → ⊥) → 30 + (m + m / 8) % 2 ≡ month_length y m
unfolding month_length
other-month y m l h = upto (λ (m : ℕ). 1 ≤ m → (m ≡ 2 → ⊥) → 30 + (m + m / 8) % 2 ≡ month_length y m) 13 (omega arith) m h l

pub month-0 : (y m : ℕ) → m < 1 → 0 ≡ month_length y m
unfolding month_length
month-0 y m h = upto (λ (m : ℕ). 0 ≡ month_length y m) 1 (omega arith) m h

pub no-month : (y m : ℕ) → 13 ≤ m → month_length y m ≡ 0
unfolding month_length
no-month y m h = get_or-eq_default (month_lengths (leap_day y)) 0 h

pub before-march : (y k : ℕ) → k < 2 → (367 * k + 5) / 12 ≡ total (month_length y) k
unfolding total month_length
before-march y k h = upto (λ (k : ℕ). (367 * k + 5) / 12 ≡ total (month_length y) k) 2 (omega arith) k h

months-past : (y k : ℕ) → 2 ≤ k → k < 13 → (367 * k + 5) / 12 + leap_day y ≡ total (month_length y) k + 2
unfolding total month_length
months-past y k l h = upto (λ (k : ℕ). 2 ≤ k → (367 * k + 5) / 12 + leap_day y ≡ total (month_length y) k + 2) 13 (omega arith) k h l

pub from-march : (y k : ℕ) (r b : Bool) → 2 ≤ k → k < 13 → r ≡ leap y → r ≡ b → (367 * k + 5) / 12 - cond b 1 2 ≡ total (month_length y) k
from-march y k r b l h p q = by-leap b (leap-is y r b p q)
  where
    by-leap : (b : Bool) → leap_day y ≡ cond b 1 0 → (367 * k + 5) / 12 - cond b 1 2 ≡ total (month_length y) k
    by-leap true d = omega (arith, months-past y k l h)
    by-leap false d = omega (arith, months-past y k l h)

-- Of a guess k that is right or one too low, a test of the sum up to the next tells which.
below-most : (f : ℕ → ℕ) (most n k : ℕ) → n ≤ total f most → total f k < n → k < most
below-most f most n k h l = elim (dec_lt k most) [
  | yes a ↦ a
  | no a ↦ let b = total_mono f most k (omega arith) in absurd (omega (arith, b))
]

right : (f : ℕ → ℕ) (most n k : ℕ) → n ≤ total f most → total f k < n → n ≤ total f (k + 1) → Within f most n (k + 1)
right f most n k h l u =
    let e : total f (k + 1 - 1) ≡ total f k = ap (total f) (omega arith) in
    let b = below-most f most n k h l in
    record { low = omega arith; high = omega (arith, b); starts = omega arith; ends = u }

one-low : (f : ℕ → ℕ) (most n k : ℕ) → n ≤ total f most → total f (k + 1) < n → n ≤ total f (k + 2) → Within f most n (k + 2)
one-low f most n k h l u =
    let e : k + 1 + 1 ≡ k + 2 = omega arith in
    subst (Within f most n) e (right f most n (k + 1) h l (subst (λ (i : ℕ). n ≤ total f i) (sym e) u))

-- The year, from the years k before it or one fewer.
in-years : (n : ℕ) → n ≤ last_day → n ≤ total year_length last_year
in-years n h = subst (λ (t : ℕ). n ≤ t) (sym (years-is last_year)) h

pub year-one-low : (n k r : ℕ) → (1 ≤ n) × (n ≤ last_day) → n ≤ years (k + 2) → r ≡ total year_length (k + 1) → r < n → Within year_length last_year n (k + 2)
year-one-low n k r h u e l =
    one-low year_length last_year n k (in-years n h.1) (omega arith) (subst (λ (t : ℕ). n ≤ t) (sym (years-is (k + 2))) u)

pub year-right : (n k r : ℕ) → (1 ≤ n) × (n ≤ last_day) → years k < n → r ≡ total year_length (k + 1) → n ≤ r → Within year_length last_year n (k + 1)
year-right n k r h u e l =
    right year_length last_year n k (in-years n h.1) (subst (λ (t : ℕ). t < n) (sym (years-is k)) u) (omega arith)

-- The month by the length of a long month: the first k months have about 31 days each.
abbrev guess_month : ℕ → ℕ
guess_month n = (n - 1) / 31

months-near : (y k : ℕ) → k < 13 → (total (month_length y) k ≤ 31 * k) × (31 * k ≤ total (month_length y) k + 7)
unfolding total month_length
months-near y k h =
    let l = leap-small y in
    upto (λ (k : ℕ). (total (month_length y) k ≤ 31 * k) × (31 * k ≤ total (month_length y) k + 7)) 13 (omega arith) k h

pub month-high : (y m : ℕ) → m ≤ 12 → month_length y m ≤ 31
unfolding month_length
month-high y m h = let l = leap-small y in upto (λ m. month_length y m ≤ 31) 13 (omega arith) m (omega arith)

year-small : (y : ℕ) → year_length y ≤ 366
unfolding year_length
year-small y = let l = leap-small y in omega arith

pub guess_small : (y n : ℕ) → (1 ≤ n) × (n ≤ year_length y) → guess_month n + 1 ≤ 12
guess_small y n h = let l = year-small y in omega arith

in-months : (y n : ℕ) → n ≤ year_length y → n ≤ total (month_length y) 12
in-months y n h = omega (arith, year-of-months y)

pub month-one-low : (y n r : ℕ) → (1 ≤ n) × (n ≤ year_length y) → r ≡ total (month_length y) (guess_month n + 1) → r < n → Within (month_length y) 12 n (guess_month n + 2)
month-one-low y n r h e l =
    let b = below-most (month_length y) 12 n (guess_month n + 1) (in-months y n h.1) (omega arith) in
    let a = months-near y (guess_month n + 2) (omega (arith, b)) in
    one-low (month_length y) 12 n (guess_month n) (in-months y n h.1) (omega arith) (omega (arith, a))

pub month-right : (y n r : ℕ) → (1 ≤ n) × (n ≤ year_length y) → r ≡ total (month_length y) (guess_month n + 1) → n ≤ r → Within (month_length y) 12 n (guess_month n + 1)
month-right y n r h e l =
    let a = months-near y (guess_month n) (omega (arith, guess_small y n h)) in
    right (month_length y) 12 n (guess_month n) (in-months y n h.1) (omega (arith, a)) (omega arith)

-- The year that has day n is the year of its date.
pub year-part : (n y : ℕ) → 1 ≤ n → Within year_length last_year n y → (y ≡ (date_of n).year) × Within year_length last_year n y
unfolding day_number
year-part n y l w =
    let t = date_of n in
    let x = date-exists n l in
    let d = day-of-year t.year t.month t.day x in
    let k = w.starts in (
      place-eq year_length y (n - total year_length (y - 1)) t.year _ w.low (omega (arith, k)) (omega (arith, total-next year_length y w.low, w.ends)) x.y-low d.0 d.1
          (omega (arith, k, number-of-date n l)),
      w,
    )

-- The parts that are found make the date, and the parts of a date its number.
pub rest : (n y a : ℕ) → a ≡ total year_length (y - 1) → Within year_length last_year n y → (1 ≤ n - a) × (n - a ≤ year_length y)
rest n y a q w = omega (arith, total-next year_length y w.low)

pub date-parts : (n y m a b : ℕ) → (1 ≤ n) × (n ≤ last_day) → a ≡ total year_length (y - 1) → b ≡ total (month_length y) (m - 1) → Within year_length last_year n y → Within (month_length y) 12 (n - a) m → date y m (n - a - b) ≡ date_of n
unfolding day_number
date-parts n y m a b h p q wy wm =
    let k = wy.starts in
    let l = wm.starts in
    let e = total-next (month_length y) m wm.low in
    let d : Exists y m (n - a - b) =
    record { y-low = wy.low; m-low = wm.low; m-high = wm.high; d-low = omega (arith, l); d-high = omega (arith, e) } in
    let g : day_number y m (n - a - b) ≡ n = omega (arith, k, l) in
    unique (date y m (n - a - b)) (date_of n) d (date-exists n h.0) (g ∙ sym (number-of-date n h.0))

-- what a date's year and month come to, in years that begin in March, and the days of its months before
pub record InMarchYear (y m year month : ℕ) : Type 0 where
  pub y-high : year ≤ y
  pub m-high : month ≤ 11
  pub days : total year_length year + (153 * month + 2) / 5 ≡ total year_length (y - 1) + total (month_length y) (m - 1) + 306

pub january : (y m : ℕ) → 1 ≤ m → m < 3 → InMarchYear y m (y - 1) (m + 9)
unfolding total month_length
january y m l h =
    let days = upto (λ (m : ℕ). 1 ≤ m → (153 * (m + 9) + 2) / 5 ≡ total (month_length y) (m - 1) + 306) 3 (omega arith) m h l in
    record { y-high = omega arith; m-high = omega arith; days = omega (arith, days) }

pub march : (y m : ℕ) → 1 ≤ y → 3 ≤ m → m ≤ 12 → InMarchYear y m y (m - 3)
unfolding total month_length year_length
march y m l k h =
    let days = upto (λ (m : ℕ). 3 ≤ m → (153 * (m - 3) + 2) / 5 + leap_day y + 59 ≡ total (month_length y) (m - 1)) 13 (omega arith) m (omega arith) k in
    record { y-high = omega arith; m-high = omega arith; days = omega (arith, days, total-next year_length y l) }

-- The parts make up the number, which fits.
pub number-by-march : (y m d year month days : ℕ) → is_date y m d ≡ true → days ≡ total year_length year → InMarchYear y m year month
    → (days + (153 * month + 2) / 5 + d ≡ day_number y m d + 306) × (day_number y m d ≤ last_day)
unfolding day_number
number-by-march y m d year month days h e k =
    let g = is-date y m d h in
    (omega (arith, e, k.days), number-high y m d g.exists g.y-high)
