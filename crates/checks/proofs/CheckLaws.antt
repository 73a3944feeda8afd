-- The laws of the checks for their callers: what is known past each, where each finds no error, and what follows it.
-- Assumes nothing.
use Rattle.std.proofs.Common.{Result, Ok, Err, is_err}
use Prim.Native.Nat.{ℕ, ◌≤◌, ◌<◌}
use mathlib.Core.Path.{◌≡◌, refl, sym, ap, ap₂, ◌∙◌}
use mathlib.Core.Bool.{Bool, true, false, cond, not, ◌||◌}
use lib.Dec.{ltb, leb, lit≤}
use native.Mathlib.Omega.{arith}
use borrow.Author.Tests.{lt-ltb, le-ltb, ltb-false, leb-true, le-leb, not-false}
use Rattle.gregorian.specs.declared.Date.{Date}
use Rattle.gregorian.specs.Calendar.{last_day, is_date, date, day_number, is_date_of, date_of, number}
use Rattle.gregorian.proofs.Tests.{and_left, and_right}
use Rattle.gregorian.proofs.Laws.{number-range, date-by, month-low}
use Rattle.gregorian.proofs.DaySteps.{numbered}
use Rattle.markets.specs.Markets.{is_market}
use Rattle.markets.specs.Years.{min_year, max_year, is_supported}
use Rattle.markets.proofs.YearLaws.{supported-years}
use Rattle.error.specs.declared.CalendarError.{CalendarError}
use Rattle.error.specs.declared.CalendarError.TheVariants.{TimeOutOfRange, DateOutOfRange, BufferTooSmall}
use Rattle.checks.specs.Checks.{checked_day, supported_day, is_month, checked_month, leaves_years, checked_range, checked_room}
use Rattle.error.specs.Errors.{result_and_then}
use Rattle.checks.specs.Inner.{check_of}

-- Where a ladder comes to no error, its first test found none, and the rest comes to none.
module _ {A : Type 0} (failed : A → Bool) (ok : A) (h : failed ok ≡ false) where
  pub passed : (b : Bool) (e rest : A) → failed e ≡ true → cond b e rest ≡ ok → (b ≡ false) × (rest ≡ ok)
  passed true e rest f q = let z : true ≡ false = sym f ∙ ap failed q ∙ h in (cc, cc)
  passed false e rest f q = (refl, q)

-- ---- a day of a market

-- day n of a known market
pub record CheckedDay (market year month day n : ℕ) : Type 0 where
  pub known : is_market market ≡ true
  pub is-date : is_date year month day ≡ true
  pub number_is : n ≡ day_number year month day
  pub same : (1 ≤ n) × (n ≤ last_day) × (date year month day ≡ date_of n)

-- and of a supported year, with a time in range
pub record SupportedDay (market year month day : ℕ) (time_in_range : Bool) (n : ℕ) : Type 0 where
  pub checked : CheckedDay market year month day n
  pub time : time_in_range ≡ true
  pub supported : is_supported year ≡ true

module _ (market year month day : ℕ) where
  pub day-passes : is_market market ≡ true → is_date year month day ≡ true → checked_day market year month day ≡ Ok (day_number year month day)
  unfolding checked_day
  day-passes k d = simp (k, d)

  pub supported-passes : is_market market ≡ true → is_date year month day ≡ true → is_supported year ≡ true → supported_day market year month day true ≡ Ok (day_number year month day)
  unfolding supported_day
  supported-passes k d s = simp (day-passes k d, s)

  pub day-checked : (n : ℕ) → checked_day market year month day ≡ Ok n → CheckedDay market year month day n
  unfolding checked_day
  day-checked n q =
      let past₈ = passed is_err (Ok n) refl (not (is_market market)) _ _ refl q in
      let past₅ = passed is_err (Ok n) refl (not (is_date year month day)) _ _ refl past₈.1 in
      let d = not-false (is_date year month day) past₅.0 in
      let e : n ≡ day_number year month day = cc in
      record {
        known = not-false _ past₈.0;
        is-date = d;
        number_is = e;
        same = numbered year month day n d e;
      }

  -- what follows the same checks for a supported day
  abbrev past-checked : Bool → ℕ → Result ℕ CalendarError
  past-checked time_in_range n =
      cond (not time_in_range) (Err TimeOutOfRange)
      (cond (not (is_supported year)) (Err (DateOutOfRange (date year month day)))
      (Ok n))

  pub supported-checked : (time_in_range : Bool) (n : ℕ) → supported_day market year month day time_in_range ≡ Ok n → SupportedDay market year month day time_in_range n
  unfolding supported_day
  supported-checked time_in_range n q = by (checked_day market year month day) refl q
    where
      by : (r : Result ℕ CalendarError) → checked_day market year month day ≡ r → result_and_then r (past-checked time_in_range) ≡ Ok n → SupportedDay market year month day time_in_range n
      by (Ok k) c p =
          let past₇ = passed is_err (Ok n) refl (not time_in_range) _ _ refl p in
          let past₁ = passed is_err (Ok n) refl (not (is_supported year)) _ _ refl past₇.1 in
          record { checked = day-checked n (c ∙ past₁.1); time = not-false time_in_range past₇.0; supported = not-false (is_supported year) past₁.0 }
      by (Err e) c p = absurd (let z : ◌≡◌ {A = ℕ} 0 1 = cc in omega arith)

-- ---- a month of a market

-- a month of a supported year of a known market
pub record CheckedMonth (market year month : ℕ) : Type 0 where
  pub known : is_market market ≡ true
  pub supported : is_supported year ≡ true
  pub from : 1 ≤ month
  pub to : month ≤ 12
  pub first-date : is_date year month 1 ≡ true

module _ (market year month : ℕ) where
  pub month-passes : is_market market ≡ true → is_supported year ≡ true → 1 ≤ month → month ≤ 12 → checked_month market year month ≡ Ok tt
  unfolding checked_month is_month
  month-passes k s l u = simp (k, s, le-leb 1 month l, le-leb month 12 u)

  pub month-checked : checked_month market year month ≡ Ok tt → CheckedMonth market year month
  unfolding checked_month is_month
  month-checked q =
      let past₈ = passed is_err (Ok tt) refl (not (is_market market)) _ _ refl q in
      let past₁ = passed is_err (Ok tt) refl (not (is_supported year)) _ _ refl past₈.1 in
      let past₂ = passed is_err (Ok tt) refl (not (is_month month)) _ _ refl past₁.1 in
      let s = not-false _ past₁.0 in
      let m = not-false _ past₂.0 in
      let l = leb-true 1 month (and_left (leb 1 month) _ m) in
      let u = leb-true month 12 (and_right (leb 1 month) _ m) in
      let years = supported-years year s in
      record {
        known = not-false _ past₈.0;
        supported = s;
        from = l;
        to = u;
        first-date = date-by year month 1 (omega arith, omega arith) (l, u) (lit≤ tt, omega (arith, month-low year month l u));
      }

-- ---- a range of dates

-- days a and b of the start and the end
pub record CheckedRange (start end : Date) (a b : ℕ) : Type 0 where
  pub start-date : is_date_of start ≡ true
  pub end-date : is_date_of end ≡ true
  pub numbers : (a ≡ number start) × (b ≡ number end)
  pub start-year : min_year ≤ start.year
  pub end-year : end.year ≤ max_year
  pub same : (1 ≤ a) × (start ≡ date_of a)
  pub in-years : (a ≤ last_day) × (b ≤ last_day)

module _ (start end : Date) where
  pub range-passes : is_date_of start ≡ true → is_date_of end ≡ true → min_year ≤ start.year → end.year ≤ max_year → checked_range start end ≡ Ok (number start, number end)
  unfolding checked_range leaves_years
  range-passes p q l u = simp (p, q, le-ltb start.year min_year l, le-ltb max_year end.year u)

  neither : (p q : Bool) → (p || q) ≡ false → (p ≡ false) × (q ≡ false)
  neither true q e = (cc, cc)
  neither false q e = (refl, e)

  pub range-checked : (a b : ℕ) → checked_range start end ≡ Ok (a, b) → CheckedRange start end a b
  unfolding checked_range leaves_years
  range-checked a b q =
      let ok : Result (ℕ × ℕ) CalendarError = Ok (a, b) in
      let past₅ = passed is_err ok refl (not (is_date_of start)) _ _ refl q in
      let past₅' = passed is_err ok refl (not (is_date_of end)) _ _ refl past₅.1 in
      let past₁ = passed is_err ok refl (leaves_years start.year end.year) _ _ refl past₅'.1 in
      let s = not-false (is_date_of start) past₅.0 in
      let e = not-false (is_date_of end) past₅'.0 in
      let years = neither (ltb start.year min_year) _ past₁.0 in
      let numbers : ◌≡◌ {A = ℕ × ℕ} (number start, number end) (a, b) = cc past₁.1 in
      let i : a ≡ number start = sym (ap (λ (n : ℕ × ℕ). n.0) numbers) in
      let k : b ≡ number end = sym (ap (λ (n : ℕ × ℕ). n.1) numbers) in
      let first = numbered start.year start.month start.day a s i in
      record {
        start-date = s;
        end-date = e;
        numbers = (i, k);
        start-year = ltb-false start.year min_year years.0;
        end-year = ltb-false max_year end.year years.1;
        same = (first.0, first.2);
        in-years = (first.1, omega (arith, k, number-range end.year end.month end.day e));
      }

  -- by the check without the day numbers: these are the numbers of the dates; or its error
  pub check-passed : Ok tt ≡ check_of (checked_range start end)
      → (checked_range start end ≡ Ok (number start, number end)) × CheckedRange start end (number start) (number end)
  check-passed q = by (checked_range start end) refl q
    where
      by : (c : Result (ℕ × ℕ) CalendarError) → checked_range start end ≡ c → Ok tt ≡ check_of c
          → (checked_range start end ≡ Ok (number start, number end)) × CheckedRange start end (number start) (number end)
      by (Ok (a, b)) e p =
          let n = (range-checked a b e).numbers in
          let ok = e ∙ ap₂ (λ (i j : ℕ). Ok (i, j)) n.0 n.1 in
          (ok, range-checked (number start) (number end) ok)
      by (Err d) e p = absurd (let z : ◌≡◌ {A = ℕ} 0 1 = cc in omega arith)

  pub check-failed : (e : CalendarError) → Err e ≡ check_of (checked_range start end) → Err e ≡ checked_range start end
  check-failed e q = by (checked_range start end) q
    where
      by : (c : Result (ℕ × ℕ) CalendarError) → Err e ≡ check_of c → Err e ≡ c
      by (Ok (a, b)) p = absurd (let z : ◌≡◌ {A = ℕ} 0 1 = cc in omega arith)
      by (Err d) p = cc

-- ---- a buffer

module _ (needed room : ℕ) where
  pub room-enough : needed ≤ room → checked_room needed room ≡ Ok needed
  unfolding checked_room
  room-enough h = simp (le-ltb room needed h)

  pub room-short : room < needed → checked_room needed room ≡ Err (BufferTooSmall needed)
  unfolding checked_room
  room-short h = simp (lt-ltb room needed h)

  pub room-checked : (n : ℕ) → checked_room needed room ≡ Ok n → (n ≡ needed) × (needed ≤ room)
  unfolding checked_room
  room-checked n q = by (ltb room needed) refl q
    where
      by : (b : Bool) → ltb room needed ≡ b → cond b (Err (BufferTooSmall needed)) (Ok needed) ≡ Ok n → (n ≡ needed) × (needed ≤ room)
      by true e p = (cc, absurd (let z : ◌≡◌ {A = ℕ} 0 1 = cc in omega arith))
      by false e p = (cc, ltb-false room needed e)
