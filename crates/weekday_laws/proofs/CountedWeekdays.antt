-- The nth weekday of a month is the nth of the days that are one, counted from the month's start or its end.
-- Assumes nothing.
use Rattle.std.proofs.Common.{Option, Some, None}
use Prim.Native.Nat.{ℕ, zero, suc, ◌+◌, ◌-◌, ◌*◌, ◌/◌, ◌≤◌, ◌<◌}
use mathlib.Core.Path.{◌≡◌, refl, ap, sym, ◌∙◌, subst}
use mathlib.Core.Bool.{Bool, true, false, ◌||◌}
use mathlib.Core.Logic.{◌⊎◌, inl, inr}
use mathlib.Core.List.{List}
use lib.Dec.{eqb, ltb}
use lib.ListN.{length}
use lib.IntN.{ℤ, pos, negsuc}
use native.Mathlib.Omega.{arith}
use native.Mathlib.Decide.{dec_lt}
use borrow.Author.Tests.{eq-eqb, ne_eqb, lt-ltb, le-ltb}
use Rattle.gregorian.specs.declared.Date.{Date}
use Rattle.gregorian.specs.Calendar.{month_length, day_number, last_year, is_date, number, date_of, weekday_of}
use Rattle.gregorian.proofs.Laws.{is-date, date-of-number, number-of-date, date-of-is, number-range}
use Rattle.utils.specs.Weekday.{first_from, nth_weekday_of_month}
use Rattle.utils.proofs.WeekdayLaws.{first-is, first-near, first-least, last_of, last-is, LastWeekday, last-weekday, to-28th, next-month, nth_last, Weeks, InLimits, IsNth, nth-weekday, nth-found, weekday-is}
use Rattle.ranges.proofs.Lists.{first_passes, all-fail, trading-none}
use Rattle.answers.specs.declared.OptionalDate.{OptionalDate}
use Rattle.answers.specs.Answers.{optional_date}
use Rattle.answers.specs.Expected.{found_date, no_date_found}
use Rattle.weekday_laws.specs.CountedWeekdays.{count_weekdays, CountsTo, IsNthWeekday, WithinLimits, AllWeekdayLaws}

-- ---- counting

abbrev is_on : ℕ → ℕ → Bool
is_on w n = eqb (weekday_of n) w

-- the first w from a on, and the days before it, which are none
first_on : (w a b : ℕ) → w ≤ 6 → first_from a w ≤ b → count_weekdays w a b ≡ suc (count_weekdays w (suc (first_from a w)) b)
first_on w a b h l =
    ap length
    (first_passes (is_on w) a (first_from a w) b (first-near a w).0 l (eq-eqb _ w (first-is a w h))
    (λ i x y. ne_eqb (weekday_of i) w (first-least a w i h x y)))

a-week-on : (w f : ℕ) → weekday_of f ≡ w → first_from (suc f) w ≡ f + 7
unfolding first_from weekday_of
a-week-on w f e = omega arith

next-first : (w a : ℕ) → w ≤ 6 → first_from (suc (first_from a w)) w ≡ first_from a w + 7
next-first w a h = a-week-on w (first_from a w) (first-is a w h)

-- From a on, the first w and j more of them up to day b, which is before the next one.
weeks-on : (w j a b : ℕ) → w ≤ 6 → first_from a w + 7 * j ≤ b → b < first_from a w + 7 * j + 7 → count_weekdays w a b ≡ suc j
weeks-on w zero a b h l u =
    let f = first_from a w in
    let n = next-first w a h in
    first_on w a b h (omega (arith, l))
    ∙ ap (λ (l : List ℕ). suc (length l)) (all-fail (is_on w) (suc f) b (λ i x y. ne_eqb (weekday_of i) w (first-least (suc f) w i h x (omega (arith, n, u, y)))))
weeks-on w (suc j) a b h l u =
    let n = next-first w a h in
    first_on w a b h (omega (arith, l)) ∙ ap suc (weeks-on w j (suc (first_from a w)) b h (omega (arith, n, l)) (omega (arith, n, u)))

-- two days on one weekday are so many weeks apart
weeks-apart : (s t : ℕ) → weekday_of s ≡ weekday_of t → s ≤ t → t ≡ s + 7 * ((t - s) / 7)
unfolding weekday_of
weeks-apart s t e l = omega arith

-- a day on the weekday is the first from itself on
first-here : (w t : ℕ) → weekday_of t ≡ w → first_from t w ≡ t
unfolding first_from weekday_of
first-here w t e = omega arith

first-up-to : (s w t : ℕ) → w ≤ 6 → weekday_of t ≡ w → s ≤ t → first_from s w ≤ t
first-up-to s w t h e l = elim (dec_lt t (first_from s w)) [
  | yes b ↦ absurd (first-least s w t h l b e)
  | no b ↦ omega arith
]

-- ---- from weeks to counts, and back

last-near : (y m w : ℕ) → is_date y m 1 ≡ true → w ≤ 6 → day_number y m (month_length y m) ≤ last_of y m w + 6
last-near y m w h w6 = (last-is w (day_number y m (month_length y m)) w6 (omega (arith, to-28th y m h))).1.0

weekday-high : (t w : ℕ) → weekday_of t ≡ w → w ≤ 6
unfolding weekday_of
weekday-high t w e = omega arith

counts-none : (w a b : ℕ) → b < a → count_weekdays w a b ≡ 0
counts-none w a b l = ap length (trading-none (is_on w) a b l)

counts-to : (y m w : ℕ) (n : ℤ) (t : ℕ) → IsNth y m w n t → CountsTo y m w n t
counts-to y m w (pos n) t d =
    let e = d.weeks in
    weeks-on w (n - 1) (day_number y m 1) t d.is-weekday (omega (arith, e)) (omega (arith, e)) ∙ omega (arith, d.limits.0)
counts-to y m w (negsuc k) t d =
    let l = last-weekday y m w d.is-month d.is-weekday in
    let f = first-here w t (weekday-is y m w (negsuc k) t d) in
    weeks-on w k t (day_number y m (month_length y m)) d.is-weekday (omega (arith, f, d.weeks, l.to_last)) (omega (arith, f, d.weeks, last-near y m w d.is-month d.is-weekday))

up-to-last : (y m w t : ℕ) → LastWeekday y m w (last_of y m w) → weekday_of t ≡ w → t ≤ day_number y m (month_length y m) → t ≤ last_of y m w
up-to-last y m w t l e h = elim (dec_lt (last_of y m w) t) [
  | yes b ↦ absurd (l.greatest t b h e)
  | no b ↦ omega arith
]

weeks-are : (y m w : ℕ) (n : ℤ) (t : ℕ) → is_date y m 1 ≡ true → WithinLimits y m n → weekday_of t ≡ w → CountsTo y m w n t → Weeks y m w n t
weeks-are y m w (pos n) t h a e c = elim (dec_lt t (day_number y m 1)) [
  | yes b ↦ absurd (omega (arith, counts-none w (day_number y m 1) t b, c, a.0))
  | no b ↦
      let s = day_number y m 1 in
      let w6 = weekday-high t w e in
      let f = first_from s w in
      let from = first-up-to s w t w6 e (omega (arith, b)) in
      let j = weeks-apart f t (first-is s w w6 ∙ sym e) from in
      let k = weeks-on w ((t - f) / 7) s t w6 (omega (arith, j)) (omega (arith, j)) in
      omega (arith, j, k, c)
]
weeks-are y m w (negsuc k) t h a e c = elim (dec_lt (day_number y m (month_length y m)) t) [
  | yes b ↦ absurd (omega (arith, counts-none w t (day_number y m (month_length y m)) b, c))
  | no b ↦
      let w6 = weekday-high t w e in
      let l = last-weekday y m w h w6 in
      let to = up-to-last y m w t l e (omega (arith, b)) in
      let j = weeks-apart t (last_of y m w) (e ∙ sym l.weekday) to in
      let f = first-here w t e in
      let i = weeks-on w ((last_of y m w - t) / 7) t (day_number y m (month_length y m)) w6 (omega (arith, f, j, l.to_last)) (omega (arith, f, j, last-near y m w h w6)) in
      omega (arith, j, i, c)
]

-- ---- the limits of n

to-limits : (y m : ℕ) (n : ℤ) → is_date y m 1 ≡ true → WithinLimits y m n → InLimits y m n
to-limits y m (pos n) h a = a
to-limits y m (negsuc k) h a =
    let d = is-date y m 1 h in (
      omega (arith, a.0),
      sym (next-month y m h) ∙ elim (dec_lt m 12) [
        | yes l ↦ simp (lt-ltb m 12 l)
        | no l ↦ elim (dec_lt y last_year) [
          | yes i ↦ simp (le-ltb m 12 (omega (arith, l)), lt-ltb y last_year i)
          | no i ↦ absurd (a.1 (omega (arith, i, d.y-high)) (omega (arith, l, d.exists.m-high)))
        ]
      ],
    )

from-limits : (y m : ℕ) (n : ℤ) → is_date y m 1 ≡ true → InLimits y m n → WithinLimits y m n
from-limits y m (pos n) h l = l
from-limits y m (negsuc k) h l = (omega (arith, l.0), λ p q. none-next p q)
  where
    none-next : y ≡ last_year → m ≡ 12 → ⊥
    none-next p q =
        let none : (ltb m 12 || ltb y last_year) ≡ false = simp (le-ltb m 12 (omega arith), le-ltb y last_year (omega arith)) in
        let both : false ≡ true = sym none ∙ next-month y m h ∙ l.1 in
        let z : ◌≡◌ {A = ℕ} 0 1 = cc in
        omega arith

-- ---- the claim

no_answer : (t : Date) → no_date_found ≡ found_date t → ⊥
no_answer t e = let z : ◌≡◌ {A = ℕ} 0 1 = ap (λ (r : OptionalDate). r.found) e in omega arith

pub weekday-laws : AllWeekdayLaws
unfolding optional_date
weekday-laws y m w n =
    record {
      returned = returned (nth_weekday_of_month y m w n);
      right = right (nth_weekday_of_month y m w n) refl;
      every = every;
      last = ap optional_date (nth_last y m w);
    }
  where
    returned : (r : Option ℕ) → ((t : Date) × (optional_date r ≡ found_date t)) ⊎ (optional_date r ≡ no_date_found)
    returned (Some u) = inl (date_of u, refl)
    returned None = inr refl

    of-day : (u : ℕ) → IsNth y m w n u → IsNthWeekday y m w n (date_of u)
    of-day u d =
        let e = number-of-date u d.low in
        record {
          is-date = date-of-is u d.low d.high;
          weekday = ap weekday_of e ∙ weekday-is y m w n u d;
          month = d.month;
          counted = subst (CountsTo y m w n) (sym e) (counts-to y m w n u d);
        }

    right : (r : Option ℕ) → nth_weekday_of_month y m w n ≡ r → (t : Date) → optional_date r ≡ found_date t → (is_date y m 1 ≡ true) × WithinLimits y m n × IsNthWeekday y m w n t
    right (Some u) e t q =
        let d = nth-weekday y m w n u e in
        let same : date_of u ≡ t = ap (λ (r : OptionalDate). r.date) q in
        let i : IsNthWeekday y m w n (date_of u) = of-day u d in
        (d.is-month, from-limits y m n d.is-month d.limits, subst (IsNthWeekday y m w n) same i)
    right None e t q = absurd (no_answer t q)

    every : (t : Date) → is_date y m 1 ≡ true → WithinLimits y m n → IsNthWeekday y m w n t → optional_date (nth_weekday_of_month y m w n) ≡ found_date t
    every t h a i =
        let r = number-range _ _ _ i.is-date in
        let same = date-of-number t (is-date _ _ _ i.is-date).exists in
        let found =
        nth-found y m w n (number t)
        (record {
          is-month = h;
          is-weekday = weekday-high (number t) w i.weekday;
          limits = to-limits y m n h a;
          weeks = weeks-are y m w n (number t) h a i.weekday i.counted;
          month = ap (λ (u : Date). u.month) same ∙ i.month;
          low = r.0;
          high = r.1;
        }) in
        ap optional_date found ∙ ap found_date same
