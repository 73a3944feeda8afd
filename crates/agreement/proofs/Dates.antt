-- The dates of a range, and the days around it.
-- Assumes nothing.
use Prim.Native.Nat.{ℕ, zero, suc, ◌-◌, ◌≤◌, ◌<◌}
use mathlib.Core.Path.{◌≡◌, refl}
use mathlib.Core.Bool.{Bool, true, false}
use mathlib.Core.Logic.{inl, inr, ⊎_elim}
use mathlib.Core.List.{map}
use native.Mathlib.Omega.{arith}
use native.Mathlib.Decide.{dec_lt}
use Rattle.gregorian.specs.declared.Date.{Date}
use Rattle.gregorian.specs.Calendar.{leap, leap_day, year_length, month_length, total, day_number, is_date_of, number, date_of}
use Rattle.gregorian.proofs.Total.{total_mono, total-next}
use Rattle.gregorian.proofs.Laws.{DateExists, is-date, day-of-year, number-of-date, number-before}
use Rattle.markets.specs.Years.{min_year, max_year, min_day, max_day}
use Rattle.ranges.specs.Ranges.{days_from, keep, filter, Every}
use Rattle.ranges.proofs.Lists.{order}
use Rattle.ranges.proofs.Items.{every-from, every-filter, every_map}
use Rattle.agreement.specs.CallsAgree.{Ascending, month_number}

year-ends : (suc (total year_length (min_year - 1)) ≡ min_day) × (total year_length max_year ≡ max_day)
unfolding total year_length leap_day leap month_length day_number
year-ends = (refl, refl)

-- What a date has to do with the supported years, by its year and by its number.
module _ (t : Date) (d : is_date_of t ≡ true) where
  exists : DateExists t
  exists = (is-date t.year t.month t.day d).exists

  -- It is after the years before its own, and not after its own.
  after-year : (y : ℕ) → y < t.year → total year_length y < number t
  unfolding day_number
  after-year y h = omega (arith, day-of-year t.year t.month t.day exists, total_mono year_length y (t.year - 1) (omega arith))

  up-to-year : (y : ℕ) → t.year ≤ y → number t ≤ total year_length y
  unfolding day_number
  up-to-year y h =
      omega (arith, day-of-year t.year t.month t.day exists, total-next year_length t.year exists.y-low, total_mono year_length t.year y h)

  pub number-from : min_year ≤ t.year → min_day ≤ number t
  number-from h = omega (arith, year-ends, after-year (min_year - 1) h)

  pub number-to : t.year ≤ max_year → number t ≤ max_day
  number-to h = omega (arith, year-ends, up-to-year max_year h)

  pub year-from : min_day ≤ number t → min_year ≤ t.year
  year-from h = ⊎_elim (λ (a : t.year ≤ (min_year - 1)). absurd (omega (arith, year-ends, up-to-year (min_year - 1) a))) (λ (a : (min_year - 1) < t.year). a) (order t.year (min_year - 1))

  pub year-to : number t ≤ max_day → t.year ≤ max_year
  year-to h = ⊎_elim (λ (a : t.year ≤ max_year). a) (λ (a : max_year < t.year). absurd (omega (arith, year-ends, after-year max_year a))) (order t.year max_year)

-- The trading days of a range, as dates, ascend.
pub ascending : (p : ℕ → Bool) (k a : ℕ) → 1 ≤ a → Ascending (map date_of (filter p (days_from a k)))
unfolding days_from filter
ascending p zero a h = tt
ascending p (suc k) a h = kept (p a) (ascending p k (suc a) (omega arith))
  where
    later : Every (λ u. number (date_of a) < number u) (map date_of (filter p (days_from (suc a) k)))
    later =
        every_map _ date_of (filter p (days_from (suc a) k))
        (every-filter _ p (days_from (suc a) k)
        (every-from _ k (suc a) (λ i x y. omega (arith, number-of-date a h, number-of-date i (omega arith)))))

    kept : (t : Bool) → Ascending (map date_of (filter p (days_from (suc a) k))) → Ascending (map date_of (keep t a (filter p (days_from (suc a) k))))
    kept true r = (later, r)
    kept false r = r

-- Months follow the order of dates.
pub months-ordered : (s t : Date) → DateExists s → DateExists t → number s ≤ number t → month_number s.year s.month ≤ month_number t.year t.month
months-ordered s t hs ht h = elim (dec_lt (month_number t.year t.month) (month_number s.year s.month)) [
  | no a ↦ omega arith
  | yes a ↦ elim (dec_lt t.year s.year) [
    | yes b ↦ let l = number-before t s ht hs (inl b) in omega (arith, l)
    | no b ↦ let l = number-before t s ht hs (inr (omega (arith, hs.m-high, ht.m-low), inl (omega (arith, hs.m-high, ht.m-low)))) in omega (arith, l)
  ]
]
