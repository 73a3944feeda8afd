-- The day after and the day before a date as the code finds them, and the number and the date of one day.
-- Assumes nothing.
use Prim.Native.Nat.{ℕ, suc, ◌+◌, ◌-◌, ◌≤◌, ◌<◌}
use mathlib.Core.Path.{◌≡◌, ap, sym, ◌∙◌}
use mathlib.Core.Bool.{Bool, true, false}
use lib.Dec.{ltb, lit≤}
use native.Mathlib.Omega.{arith}
use native.Mathlib.Decide.{dec_le}
use borrow.Author.Tests.{lt-ltb, le-ltb}
use Rattle.gregorian.specs.declared.Date.{Date}
use Rattle.gregorian.specs.declared.days.CalendarDay.{CalendarDay}
use Rattle.gregorian.specs.Calendar.{total, month_length, day_number, last_day, is_date, is_date_of, day_after, date_of, date, number, day_before}
use Rattle.gregorian.proofs.Laws.{DateExists, is-date, month-low, to-month, to-year, by_number, number-of-date, date-of-is, number-range}

-- ---- the day after

module _ (t : Date) where
  abbrev goes_on : Bool
  goes_on = ltb t.day (month_length t.year t.month)

  pub after-in-month : goes_on ≡ true → date t.year t.month (t.day + 1) ≡ day_after t
  unfolding day_after
  after-in-month e = simp e

  pub after-month : goes_on ≡ false → t.month < 12 → date t.year (t.month + 1) 1 ≡ day_after t
  unfolding day_after
  after-month e l = simp (e, lt-ltb t.month 12 l)

  pub after-year : goes_on ≡ false → 12 ≤ t.month → date (t.year + 1) 1 1 ≡ day_after t
  unfolding day_after
  after-year e l = simp (e, le-ltb t.month 12 l)

-- ---- the day before

module _ (t : Date) (h : DateExists t) where
  -- a date whose number is one less
  is-before : (u : Date) → DateExists u → number t ≡ number u + 1 → u ≡ day_before t
  is-before u x e = by_number u.year u.month u.day (number t - 1) x (omega (arith, e))

  pub before-in-month : 1 < t.day → date t.year t.month (t.day - 1) ≡ day_before t
  unfolding day_number
  before-in-month l =
      is-before (date t.year t.month (t.day - 1))
      (record { y-low = h.y-low; m-low = h.m-low; m-high = h.m-high; d-low = omega arith; d-high = omega (arith, h.d-high) })
      (omega (arith, l))

  pub before-month : t.day ≤ 1 → 1 < t.month → date t.year (t.month - 1) (month_length t.year (t.month - 1)) ≡ day_before t
  before-month d l =
      let y = t.year in
      let u = date y (t.month - 1) (month_length y (t.month - 1)) in
      let x : DateExists u = record { y-low = h.y-low; m-low = omega arith; m-high = omega (arith, h.m-high); d-low = omega (arith, month-low y (t.month - 1) (omega arith) (omega (arith, h.m-high))); d-high = omega arith } in
      let next : t.month - 1 + 1 ≡ t.month = omega arith in
      let first : 1 ≡ t.day = omega (arith, d, h.d-low) in
      is-before u x (sym (λ j. day_number y (next j) (first j)) ∙ (to-month u x (omega arith) (omega (arith, h.m-high))).0)

  pub before-year : t.day ≤ 1 → t.month ≤ 1 → 2 ≤ t.year → date (t.year - 1) 12 31 ≡ day_before t
  unfolding month_length
  before-year d m l =
      let u = date (t.year - 1) 12 31 in
      let x : DateExists u = record { y-low = omega arith; m-low = lit≤ tt; m-high = lit≤ tt; d-low = lit≤ tt; d-high = lit≤ tt } in
      let next : t.year - 1 + 1 ≡ t.year = omega arith in
      let january : 1 ≡ t.month = omega (arith, m, h.m-low) in
      let first : 1 ≡ t.day = omega (arith, d, h.d-low) in
      is-before u x (sym (λ j. day_number (next j) (january j) (first j)) ∙ (to-year u x (lit≤ tt) (lit≤ tt)).0)

-- 1 January of year 1 is day 1
first-of-1 : (y m d : ℕ) → y ≡ 1 → m ≡ 1 → d ≡ 1 → day_number y m d ≡ 1
unfolding day_number total
first-of-1 y m d p q r = λ j. day_number (p j) (q j) (r j)

pub year-2 : (t : Date) → DateExists t → t.day ≤ 1 → t.month ≤ 1 → 2 ≤ number t → 2 ≤ t.year
year-2 t h d m n = elim (dec_le 2 t.year) [
  | yes l ↦ l
  | no l ↦ absurd (omega (arith, n, first-of-1 t.year t.month t.day (omega (arith, h.y-low)) (omega (arith, m, h.m-low)) (omega (arith, d, h.d-low))))
]

-- ---- the number and the date of one day

-- a date and its number
pub numbered : (y m d n : ℕ) → is_date y m d ≡ true → n ≡ day_number y m d → (1 ≤ n) × (n ≤ last_day) × (date y m d ≡ date_of n)
numbered y m d n h e =
    let r = number-range y m d h in
    (omega (arith, e, r.0), omega (arith, e, r.1), by_number y m d n (is-date y m d h).exists (sym e))

-- day n has the date t; its years go on past those of a `CalendarDay`
module _ (n : ℕ) (t : Date) (low : 1 ≤ n) (same : t ≡ date_of n) where
  pub number_same : number t ≡ n
  number_same = ap number same ∙ number-of-date n low

  pub after_same : day_after t ≡ date_of (n + 1)
  unfolding date_of
  after_same = let e : suc n ≡ n + 1 = omega arith in ap day_after same ∙ ap date_of e

  pub before_same : day_before t ≡ date_of (n - 1)
  before_same = ap (λ (i : ℕ). date_of (i - 1)) number_same

module _ (day : CalendarDay) where
  pub number_is : number day.date ≡ day.number
  number_is = number_same day.number day.date day.low day.same

  pub is-date-of : is_date_of day.date ≡ true
  is-date-of = ap is_date_of day.same ∙ date-of-is day.number day.low day.high
