-- The laws of dates and day numbers, for the proofs of every crate above.
-- Assumes nothing.
use Prim.Native.Nat.{ℕ, zero, suc, ◌+◌, ◌-◌, ◌≤◌, ◌<◌}
use mathlib.Core.Path.{◌≡◌, refl, ap, sym, ◌∙◌, subst}
use mathlib.Core.Bool.{Bool, true, false, cond, ◌&&◌}
use mathlib.Core.Logic.{◌⊎◌, ⊎_elim}
use lib.Dec.{leb, ltb, lit≤}
use native.Mathlib.Omega.{arith}
use native.Mathlib.Decide.{dec_lt}
use borrow.Author.Tests.{ltb-true, ltb-false, leb-true, le-leb}
use Rattle.gregorian.specs.declared.Date.{Date}
use Rattle.gregorian.specs.Calendar.{leap, leap_day, total, year_length, month_length, day_number, last_year, last_day, is_date, is_date_of, day_after, date_of, date, number, day_before}
use Rattle.gregorian.specs.CalendarClaims.{DatesAreNumbered}
use Rattle.gregorian.specs.Inner.{Exists, IsDate}
use Rattle.gregorian.proofs.Total.{total-none, total-next, total_mono, place-lt, place-eq, upto}
use Rattle.gregorian.proofs.YearDays.{years-is}
use Rattle.gregorian.proofs.Tests.{and_left, and_right}

abbrev pub DateExists : Date → Type 0
DateExists t = Exists t.year t.month t.day

-- day d + k of a month is k days after day d
pub days-on : (y m d k : ℕ) → day_number y m (d + k) ≡ day_number y m d + k
unfolding day_number
days-on y m d k = omega arith

-- The order of dates: by year, then by month, then by day.
abbrev pub Before : Date → Date → Type 0
Before s t = (s.year < t.year) ⊎ ((s.year ≡ t.year) × ((s.month < t.month) ⊎ ((s.month ≡ t.month) × (s.day < t.day))))

-- The test of a date and its facts.
pub is-date : (y m d : ℕ) → is_date y m d ≡ true → IsDate y m d
unfolding is_date
is-date y m d e₆ =
    let t₂ = leb 1 y && leb y last_year in
    let t₃ = t₂ && leb 1 m in
    let t₄ = t₃ && leb m 12 in
    let t₅ = t₄ && leb 1 d in
    let e₅ = and_left t₅ _ e₆ in
    let e₄ = and_left t₄ _ e₅ in
    let e₃ = and_left t₃ _ e₄ in
    let e₂ = and_left t₂ _ e₃ in
    record {
      exists = record {
        y-low = leb-true 1 y (and_left (leb 1 y) _ e₂);
        m-low = leb-true 1 m (and_right t₂ _ e₃);
        m-high = leb-true m 12 (and_right t₃ _ e₄);
        d-low = leb-true 1 d (and_right t₄ _ e₅);
        d-high = leb-true d (month_length y m) (and_right t₅ _ e₆);
      };
      y-high = leb-true y last_year (and_right (leb 1 y) _ e₂);
    }

pub date-is : (y m d : ℕ) → IsDate y m d → is_date y m d ≡ true
unfolding is_date
date-is y m d h =
    let e = h.exists in
    simp (le-leb 1 y e.y-low, le-leb y last_year h.y-high, le-leb 1 m e.m-low, le-leb m 12 e.m-high, le-leb 1 d e.d-low, le-leb d (month_length y m) e.d-high)

-- a date by its bounds
pub date-by : (y m d : ℕ) → (1 ≤ y) × (y ≤ last_year) → (1 ≤ m) × (m ≤ 12) → (1 ≤ d) × (d ≤ month_length y m) → is_date y m d ≡ true
date-by y m d a b c =
    date-is y m d
    (record { exists = record { y-low = a.0; m-low = b.0; m-high = b.1; d-low = c.0; d-high = c.1 }; y-high = a.1 })

-- the months of a year make up the year
pub year-of-months : (y : ℕ) → total (month_length y) 12 ≡ year_length y
unfolding total month_length year_length
year-of-months y = omega arith

-- a month has 28 days at least
pub month-low : (y m : ℕ) → 1 ≤ m → m ≤ 12 → 28 ≤ month_length y m
unfolding month_length
month-low y m h k = upto (λ m. 1 ≤ m → 28 ≤ month_length y m) 13 (omega arith) m (omega arith) h

-- the day of the year stays within the year
pub day-of-year : (y m d : ℕ) → Exists y m d → (1 ≤ total (month_length y) (m - 1) + d) × (total (month_length y) (m - 1) + d ≤ year_length y)
day-of-year y m d h =
    omega (arith, total_mono (month_length y) m 12 h.m-high, total-next (month_length y) m h.m-low, year-of-months y)

-- The day after exists, and its number is one more.
abbrev NextDay : Date → Date → Type 0
NextDay t u = (number u ≡ number t + 1) × DateExists u

in-month : (t : Date) → DateExists t → t.day < month_length t.year t.month → NextDay t (date t.year t.month (t.day + 1))
unfolding day_number
in-month t h l =
    (omega arith, record { y-low = h.y-low; m-low = h.m-low; m-high = h.m-high; d-low = omega arith; d-high = omega (arith, l) })

pub to-month : (t : Date) → DateExists t → month_length t.year t.month ≤ t.day → t.month < 12 → NextDay t (date t.year (t.month + 1) 1)
unfolding day_number
to-month t h l k =
    let b = total-next (month_length t.year) t.month h.m-low in
    let e : total (month_length t.year) (t.month + 1 - 1) ≡ total (month_length t.year) t.month = ap (total (month_length t.year)) (omega arith) in (
      omega (arith, l, b),
      record { y-low = h.y-low; m-low = omega arith; m-high = omega arith; d-low = lit≤ tt; d-high = omega (arith, month-low t.year (t.month + 1) (omega arith) (omega arith)) },
    )

pub to-year : (t : Date) → DateExists t → month_length t.year t.month ≤ t.day → 12 ≤ t.month → NextDay t (date (t.year + 1) 1 1)
unfolding day_number
to-year t h l k =
    let b = total-next (month_length t.year) t.month h.m-low in
    let b' : total (month_length t.year) t.month ≡ total (month_length t.year) 12 = ap (total (month_length t.year)) (omega arith) in
    let e : total year_length (t.year + 1 - 1) ≡ total year_length t.year = ap (total year_length) (omega arith) in
    let z = total-next year_length t.year h.y-low in
    let w = year-of-months t.year in
    let v : total (month_length (t.year + 1)) (1 - 1) ≡ 0 = total-none (month_length (t.year + 1)) in (
      omega (arith, l, b, z, w),
      record { y-low = omega arith; m-low = lit≤ tt; m-high = lit≤ tt; d-low = lit≤ tt; d-high = omega (arith, month-low (t.year + 1) 1 (lit≤ tt) (lit≤ tt)) },
    )

after : (t : Date) (a b : Bool) → ltb t.day (month_length t.year t.month) ≡ a → ltb t.month 12 ≡ b → DateExists t → NextDay t (cond a (date t.year t.month (t.day + 1)) (cond b (date t.year (t.month + 1) 1) (date (t.year + 1) 1 1)))
after t true b p q h = in-month t h (ltb-true _ _ p)
after t false true p q h = to-month t h (ltb-false _ _ p) (ltb-true _ _ q)
after t false false p q h = to-year t h (ltb-false _ _ p) (ltb-false _ _ q)

pub next-number : (t : Date) → DateExists t → number (day_after t) ≡ number t + 1
unfolding day_after
next-number t h = (after t _ _ refl refl h).0

pub next-exists : (t : Date) → DateExists t → DateExists (day_after t)
unfolding day_after
next-exists t h = (after t _ _ refl refl h).1

-- Each number from 1 on is the number of its date, which exists.
first : date_of 1 ≡ date 1 1 1
unfolding date_of day_after month_length
first = refl

first-exists : Exists 1 1 1
unfolding month_length
first-exists = record { y-low = lit≤ tt; m-low = lit≤ tt; m-high = lit≤ tt; d-low = lit≤ tt; d-high = lit≤ tt }

first-number : day_number 1 1 1 ≡ 1
unfolding day_number total
first-number = refl

numbered_next : (n : ℕ) → DateExists (date_of n) × (number (date_of n) ≡ n) → DateExists (date_of (suc n)) × (number (date_of (suc n)) ≡ suc n)
unfolding date_of
numbered_next n w = (next-exists (date_of n) w.0, next-number (date_of n) w.0 ∙ omega (arith, w.1))

numbered : (n : ℕ) → DateExists (date_of (suc n)) × (number (date_of (suc n)) ≡ suc n)
numbered zero = (subst DateExists (sym first) first-exists, ap number first ∙ first-number)
numbered (suc n) = numbered_next (suc n) (numbered n)

pub date-exists : (n : ℕ) → 1 ≤ n → DateExists (date_of n)
date-exists zero h = absurd (omega arith)
date-exists (suc n) h = (numbered n).0

pub number-of-date : (n : ℕ) → 1 ≤ n → number (date_of n) ≡ n
number-of-date zero h = absurd (omega arith)
number-of-date (suc n) h = (numbered n).1

-- Two dates with one number are one date.
unique-in-year : (y m d k e : ℕ) → Exists y m d → Exists y k e → day_number y m d ≡ day_number y k e → date y m d ≡ date y k e
unfolding day_number
unique-in-year y m d k e h g q =
    let a : m ≡ k = place-eq (month_length y) m d k e h.m-low h.d-low h.d-high g.m-low g.d-low g.d-high (omega arith) in
    let b : total (month_length y) (m - 1) ≡ total (month_length y) (k - 1) = ap (λ (i : ℕ). total (month_length y) (i - 1)) a in
    let c : d ≡ e = omega arith in
    cc

pub unique : (s t : Date) → DateExists s → DateExists t → number s ≡ number t → s ≡ t
unfolding day_number
unique s t hs ht q =
    let ds = day-of-year s.year s.month s.day hs in
    let dt = day-of-year t.year t.month t.day ht in
    let a : s.year ≡ t.year = place-eq year_length s.year _ t.year _ hs.y-low ds.0 ds.1 ht.y-low dt.0 dt.1 q in
    subst (λ (y : ℕ). Exists y t.month t.day → number s ≡ day_number y t.month t.day → s ≡ date y t.month t.day) a
    (unique-in-year s.year s.month s.day t.month t.day hs) ht q

pub number-low : (y m d : ℕ) → Exists y m d → 1 ≤ day_number y m d
unfolding day_number
number-low y m d h = let l = h.d-low in omega arith

-- Each date is the date of its number.
pub date-of-number : (t : Date) → DateExists t → date_of (number t) ≡ t
date-of-number t h =
    let l = number-low t.year t.month t.day h in
    unique (date_of (number t)) t (date-exists (number t) l) h (number-of-date (number t) l)

pub after-before : (t : Date) → DateExists t → day_after (day_before t) ≡ t
unfolding date_of
after-before t h =
    let e : suc (number t - 1) ≡ number t = omega (arith, number-low t.year t.month t.day h) in
    ap date_of e ∙ date-of-number t h

-- Years 1 to 9999 are the numbers 1 to 3652059.
pub number-high : (y m d : ℕ) → Exists y m d → y ≤ last_year → day_number y m d ≤ last_day
unfolding day_number
number-high y m d h k =
    omega (arith, years-is last_year, total_mono year_length y last_year k, total-next year_length y h.y-low, day-of-year y m d h)

pub year-high : (y m d : ℕ) → Exists y m d → day_number y m d ≤ last_day → y ≤ last_year
unfolding day_number
year-high y m d h k = elim (dec_lt last_year y) [
  | no a ↦ omega arith
  | yes a ↦ let b = total_mono year_length last_year (y - 1) (omega arith) in let c = h.d-low in omega (arith, years-is last_year, b)
]

pub number-range : (y m d : ℕ) → is_date y m d ≡ true → (1 ≤ day_number y m d) × (day_number y m d ≤ last_day)
number-range y m d h =
    let g = is-date y m d h in
    (number-low y m d g.exists, number-high y m d g.exists g.y-high)

-- each number in range is that of a date
pub date-of-is : (n : ℕ) → 1 ≤ n → n ≤ last_day → is_date_of (date_of n) ≡ true
date-of-is n l h =
    let e = number-of-date n l in
    let g = date-exists n l in
    date-is (date_of n).year (date_of n).month (date_of n).day
    (record { exists = g; y-high = year-high (date_of n).year (date_of n).month (date_of n).day g (omega (arith, e)) })

-- Numbers follow the order of dates.
later-year : (y m d z k e : ℕ) → Exists y m d → Exists z k e → y < z → day_number y m d < day_number z k e
unfolding day_number
later-year y m d z k e h g l =
    place-lt year_length y _ z _ h.y-low (day-of-year y m d h).1 l (day-of-year z k e g).0

later-month : (y m d k e : ℕ) → Exists y m d → Exists y k e → m < k → day_number y m d < day_number y k e
unfolding day_number
later-month y m d k e h g l =
    let a = place-lt (month_length y) m d k e h.m-low h.d-high l g.d-low in
    omega (arith, a)

later-day : (y m d e : ℕ) → d < e → day_number y m d < day_number y m e
unfolding day_number
later-day y m d e l = omega arith

pub number-before : (s t : Date) → DateExists s → DateExists t → Before s t → number s < number t
number-before s t hs ht =
    ⊎_elim (λ l. later-year _ _ _ _ _ _ hs ht l)
    (λ w. subst (λ (y : ℕ). Exists y t.month t.day → number s < day_number y t.month t.day) w.0
    (λ g. ⊎_elim (λ l. later-month _ _ _ _ _ hs g l)
    (λ v. subst (λ (m : ℕ). number s < day_number s.year m t.day) v.0 (later-day s.year s.month s.day t.day v.1))
    w.1) ht)

-- the year of a date, by its day number
pub year-of-number : (y m d : ℕ) → is_date y m d ≡ true → y ≡ (date_of (day_number y m d)).year
year-of-number y m d h = sym (ap (λ (t : Date). t.year) (date-of-number (date y m d) (is-date y m d h).exists))

-- a date by the number of its day
pub by_number : (y m d n : ℕ) → Exists y m d → day_number y m d ≡ n → date y m d ≡ date_of n
by_number y m d n x e = sym (date-of-number (date y m d) x) ∙ ap date_of e

-- one of the first 28 days of a month
pub early-date : (y m d : ℕ) → is_date y m 1 ≡ true → 1 ≤ d → d ≤ 28 → is_date y m d ≡ true
early-date y m d h l u =
    let g = is-date y m 1 h in
    let e = g.exists in
    date-by y m d (e.y-low, g.y-high) (e.m-low, e.m-high) (l, omega (arith, month-low y m e.m-low e.m-high))

pub dates-are-numbered : DatesAreNumbered
unfolding day_number total month_length leap_day leap
dates-are-numbered = record {
  first = refl;
  last = ap (λ (k : ℕ). k + 365) (years-is 9998);
  in-range = λ t h. number-range t.year t.month t.day h;
  next = λ t h. next-number t (is-date t.year t.month t.day h).exists;
  date-of = λ t h. date-of-number t (is-date t.year t.month t.day h).exists;
  number_of = λ n l h. (date-of-is n l h, number-of-date n l);
}
