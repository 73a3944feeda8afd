-- The month calls of a range: what each reads, and the lists joined.
-- Assumes nothing.
use Rattle.std.proofs.Common.{Result}
use Prim.Native.Nat.{ℕ, zero, suc, ◌+◌, ◌≤◌, ◌<◌}
use mathlib.Core.Path.{◌≡◌, refl, sym, ap, ap₂, ◌∙◌, subst}
use mathlib.Core.Bool.{Bool, true, false, cond, ◌&&◌}
use mathlib.Core.Logic.{inl, inr, ⊎_elim}
use mathlib.Core.List.{List, ◌++◌, map, map-append, map-map}
use lib.Dec.{leb, eqb}
use lib.ListN.{length, take}
use native.Mathlib.Omega.{arith}
use borrow.Author.Tests.{eqb-true, eqb-false, le-leb}
use Rattle.gregorian.specs.declared.Date.{Date}
use Rattle.gregorian.specs.Calendar.{month_length, day_number, last_year, last_day, is_date, is_date_of, date, number, date_of}
use Rattle.gregorian.proofs.Laws.{date-by, month-low, date-of-number, number-of-date, date-of-is}
use Rattle.utils.specs.Weekday.{next_month, next_year}
use Rattle.utils.proofs.WeekdayLaws.{month-end}
use Rattle.markets.specs.Markets.{is_market, is_trading_day}
use Rattle.markets.specs.Years.{min_year, max_year, is_supported}
use Rattle.markets.proofs.YearLaws.{supported-years}
use Rattle.ranges.specs.Ranges.{Every, joined}
use Rattle.ranges.specs.Agreement.{DateRange, limit_to, Tile, list_of}
use Rattle.ranges.proofs.Lists.{order, filter_map}
use Rattle.ranges.proofs.Items.{every-each, every_map, every-trading-day, map_same, filter_same}
use Rattle.trading_days.specs.Month.{month_list}
use Rattle.trading_days.proofs.MonthDayLaws.{month-list}
use Rattle.buffers.proofs.BufferLaws.{overwrite-start}
use Rattle.checks.specs.Checks.{final_buffer}
use Rattle.checks.proofs.CheckLaws.{room-enough, room-short}
use Rattle.range_calls.proofs.MonthLaws.{month-of-years}
use Rattle.answers.specs.Answers.{count_answer}
use Rattle.answers.proofs.AnswerLaws.{counted_is, too-small-is}
use Rattle.agreement.specs.CallsAgree.{Month, month_number, months_from, Writes, Reads, dates_of, limit_to_range}
use Rattle.error.specs.declared.CalendarError.{CalendarError}

-- ---- the months in order

-- The month after is month 1 to 12 of a year, and has the next number.
next-month : (y m : ℕ) → 1 ≤ m → m ≤ 12 → (month_number (next_year y m) (next_month m) ≡ suc (month_number y m)) × (1 ≤ next_month m) × (next_month m ≤ 12)
next-month y m l h = by (eqb m 12) refl
  where
    by : (t : Bool) → eqb m 12 ≡ t → (month_number (cond t (y + 1) y) (cond t 1 (m + 1)) ≡ suc (month_number y m)) × (1 ≤ cond t 1 (m + 1)) × (cond t 1 (m + 1) ≤ 12)
    by true e = let q = eqb-true m 12 e in (omega arith, omega arith, omega arith)
    by false e = let q = eqb-false m 12 e in (omega arith, omega arith, omega arith)

-- Two months of one number are one month.
same-month : (y m y' m' : ℕ) → 1 ≤ m → m ≤ 12 → 1 ≤ m' → m' ≤ 12 → month_number y m ≡ month_number y' m' → (y ≡ y') × (m ≡ m')
same-month y m y' m' l h l' h' e = (omega arith, omega arith)

-- the first and the last day of a month
abbrev pub month_range : Month → DateRange
month_range m = record { first = day_number m.year m.month 1; last = day_number m.year m.month (month_length m.year m.month) }

-- days of one month, and the day number of each
pub later-in-month : (y m d e : ℕ) → d ≤ e → day_number y m d ≤ day_number y m e
unfolding day_number
later-in-month y m d e h = omega arith

pub number-from-day : (y m d : ℕ) → d ≤ day_number y m d
unfolding day_number
number-from-day y m d = omega arith

-- The months from one to another tile the days from the first of the one to the last of the other.
pub tile : (k y m y' m' : ℕ) → 1 ≤ y → 1 ≤ m → m ≤ 12 → 1 ≤ m' → m' ≤ 12 → y' ≤ last_year → month_number y m + k ≡ month_number y' m'
    → Tile (day_number y m 1) (map month_range (months_from y m (suc k))) (day_number y' m' (month_length y' m'))
tile zero y m y' m' o l h l' h' u e =
    let same = same-month y m y' m' l h l' h' (omega arith) in
    let long = month-low y m l h in
    let start = later-in-month y m 1 (month_length y m) (omega arith) in
    (refl, omega arith, ap₂ (λ (i j : ℕ). suc (day_number i j (month_length i j))) same.0 same.1)
tile (suc k) y m y' m' o l h l' h' u e =
    let next = next-month y m l h in
    let long = month-low y m l h in
    let start = later-in-month y m 1 (month_length y m) (omega arith) in
    let date : is_date y m 1 ≡ true = date-by y m 1 (o, omega arith) (l, h) (omega arith, omega arith) in
    let end = month-end y m date in (
      refl,
      omega arith,
      subst (λ (i : ℕ). Tile i (map month_range (months_from (next_year y m) (next_month m) (suc k))) (day_number y' m' (month_length y' m'))) (end ∙ omega arith)
          (tile k (next_year y m) (next_month m) y' m' (omega arith) next.1 next.2 l' h' u (omega arith)),
    )

-- ---- the calls

-- what the calls read
abbrev pub listed : ℕ → Month → List ℕ
listed market m = month_list market m.year m.month

-- month m of the year y, a supported one
module _ (market : ℕ) (known : is_market market ≡ true) (y m : ℕ) (year : is_supported y ≡ true) (l : 1 ≤ m) (h : m ≤ 12) where
  abbrev month : Month
  month = record { year = y; month = m }

  abbrev bytes : List ℕ
  bytes = month_list market y m

  writes : (buffer : List ℕ) → length bytes ≤ length buffer → Writes market month buffer bytes
  writes buffer fits =
      let ok = month-of-years market y m buffer known year l h ∙ room-enough (length bytes) (length buffer) fits in
      (ap count_answer ok ∙ counted_is (length bytes), ap (λ (r : Result ℕ CalendarError). take (length bytes) (final_buffer r bytes buffer)) ok ∙ overwrite-start bytes buffer)

  reads : (buffer : List ℕ) → Reads market month buffer bytes
  reads buffer =
      ⊎_elim (λ (fits : length bytes ≤ length buffer). inl (writes buffer fits))
      (λ (short : length buffer < length bytes).
      inr (ap count_answer (month-of-years market y m buffer known year l h ∙ room-short (length bytes) (length buffer) short) ∙ too-small-is (length bytes), writes))
      (order (length bytes) (length buffer))

  -- The bytes, as dates, are the trading days of the month.
  dates : dates_of (listed market) month ≡ map date_of (list_of (is_trading_day market) (month_range month))
  unfolding month_list
  dates =
      map_same (date y m) (λ d. date_of (day_number y m d)) bytes
      (every-trading-day _ _ 1 (month_length y m)
      (λ d a b. sym (date-of-number (date y m d) (record { y-low = low; m-low = l; m-high = h; d-low = a; d-high = b }))))
      ∙ sym (map-map date_of (day_number y m) bytes)
      ∙ ap (map date_of) (month-list market y m)
    where
      low : 1 ≤ y
      low = omega (arith, supported-years y year)

-- ---- the months of a range

-- the months of the supported years, by their numbers
abbrev pub MonthsInYears : ℕ → ℕ → ℕ → Type 0
MonthsInYears y m k = (month_number min_year 1 ≤ month_number y m) × (month_number y m + k ≤ suc (month_number max_year 12))

module _ (market : ℕ) (known : is_market market ≡ true) where
  supported : (y m k : ℕ) → 1 ≤ m → m ≤ 12 → MonthsInYears y m (suc k) → is_supported y ≡ true
  unfolding is_supported
  supported y m k l h r = simp (le-leb min_year y (omega arith), le-leb y max_year (omega arith))

  pub all_read : (buffer : Month → List ℕ) (k y m : ℕ) → 1 ≤ m → m ≤ 12 → MonthsInYears y m k → Every (λ i. Reads market i (buffer i) (listed market i)) (months_from y m k)
  all_read buffer zero y m l h r = tt
  all_read buffer (suc k) y m l h r =
      let next = next-month y m l h in (
        reads market known y m (supported y m k l h r) l h (buffer (record { year = y; month = m })),
        all_read buffer k (next_year y m) (next_month m) next.1 next.2 (omega arith, omega arith),
      )

  pub joined-dates : (k y m : ℕ) → 1 ≤ m → m ≤ 12 → MonthsInYears y m k
      → joined (dates_of (listed market)) (months_from y m k) ≡ map date_of (joined (list_of (is_trading_day market)) (map month_range (months_from y m k)))
  joined-dates zero y m l h r = refl
  joined-dates (suc k) y m l h r =
      let next = next-month y m l h in
      ap₂ (λ (i j : List Date). i ++ j) (dates market known y m (supported y m k l h r) l h)
      (joined-dates k (next_year y m) (next_month m) next.1 next.2 (omega arith, omega arith))
      ∙ sym (map-append date_of (list_of (is_trading_day market) (month_range (record { year = y; month = m }))) (joined (list_of (is_trading_day market)) (map month_range (months_from (next_year y m) (next_month m) k))))

-- The dates of day numbers from 1 to the last are dates.
pub are-dates : (l : List ℕ) → Every (λ n. (1 ≤ n) × (n ≤ last_day)) l → Every (λ t. is_date_of t ≡ true) (map date_of l)
are-dates l e = every_map _ date_of l (every-each _ _ (λ n h. date-of-is n h.0 h.1) l e)

-- A list of days limited to a range, as dates and as day numbers.
pub limited-dates : (first last : Date) (l : List ℕ) → Every (λ n. 1 ≤ n) l → limit_to_range first last (map date_of l) ≡ map date_of (limit_to (number first) (number last) l)
limited-dates first last l e =
    filter_map (λ t. leb (number first) (number t) && leb (number t) (number last)) date_of l
    ∙ ap (map date_of)
    (filter_same _ _ l (every-each _ _ (λ n h. ap (λ (i : ℕ). leb (number first) i && leb i (number last)) (number-of-date n h)) l e))
