-- The laws of the nth weekday of a month, for any weekday, month and signed n.
-- Assumes nothing.
use Rattle.std.proofs.Common.{Option, Some, None, option_map, option_and_then}
use Prim.Native.Nat.{ℕ, zero, suc, ◌+◌, ◌-◌, ◌*◌, ◌%◌, ◌≤◌, ◌<◌}
use mathlib.Core.Path.{◌≡◌, refl, ap, sym, ◌∙◌}
use mathlib.Core.Bool.{Bool, true, false, cond, ◌&&◌, ◌||◌}
use lib.Dec.{leb, ltb, eqb, lit≤}
use lib.IntN.{ℤ, pos, negsuc}
use native.Mathlib.Omega.{arith}
use native.Mathlib.Decide.{dec_lt}
use borrow.Author.Tests.{leb-true, ltb-true, eqb-true, eqb-false, le-leb, lt-leb, le-ltb, lt-ltb, eq-eqb, ne_eqb}
use Rattle.gregorian.specs.Calendar.{month_length, day_number, last_year, last_day, is_date, day_after, date_of, date, weekday_of}
use Rattle.gregorian.specs.Inner.{Exists}
use Rattle.gregorian.specs.declared.Date.{Date}
use Rattle.gregorian.proofs.Tests.{and_left, and_right}
use Rattle.gregorian.proofs.Laws.{days-on, is-date, date-is, date-by, month-low, next-number, number-range, date-of-number}
use Rattle.gregorian.proofs.Weekdays.{weekday-weeks}
use Rattle.utils.specs.Weekday.{if_in_month, first_from, target_day, nth_from_start, last_up_to, next_month, next_year, first_of_next, last_weekday_of_month, weeks_before, weeks_before_last, most_nth, nth_weekday_of_month}
use Rattle.utils.specs.Inner.{InYears}

-- what a test that leads to a day or to None says where there is a day
pub when-day : (b : Bool) (x : Option ℕ) (t : ℕ) → cond b x None ≡ Some t → (b ≡ true) × (x ≡ Some t)
when-day true x t e = (refl, e)
when-day false x t e = (cc, cc)

never : (b : Bool) → cond {A = Option ℕ} b None None ≡ None
never true = refl
never false = refl

none-no-day : (t : ℕ) → None ≡ Some t → ⊥
none-no-day t e = let z : ◌≡◌ {A = ℕ} 0 1 = cc in omega arith

-- The first w from day s on is a w, one of seven days, and no day before it is a w.
pub first-is : (s w : ℕ) → w ≤ 6 → weekday_of (first_from s w) ≡ w
unfolding first_from weekday_of
first-is s w h = omega arith

pub first-near : (s w : ℕ) → (s ≤ first_from s w) × (first_from s w < s + 7)
unfolding first_from
first-near s w = omega arith

pub first-least : (s w u : ℕ) → w ≤ 6 → s ≤ u → u < first_from s w → weekday_of u ≡ w → ⊥
unfolding first_from weekday_of
first-least s w u h l k e = omega arith

-- ---- the month of the target

-- Only the month's number is compared: what is kept, and that wherever the target lies in such a month it is kept.
kept : (m t u : ℕ) → if_in_month m u ≡ Some t → (u ≡ t) × (t ≤ last_day) × ((date_of t).month ≡ m)
unfolding if_in_month
kept m t u e =
    let c = when-day (leb u last_day && eqb (date_of u).month m) (Some u) t e in
    let q : u ≡ t = cc c.1 in
    let l = leb-true u last_day (and_left (leb u last_day) _ c.0) in
    (q, omega (arith, q, l), ap (λ (i : ℕ). (date_of i).month) (sym q) ∙ eqb-true _ _ (and_right (leb u last_day) _ c.0))

keeps : (m t : ℕ) → t ≤ last_day → (date_of t).month ≡ m → if_in_month m t ≡ Some t
unfolding if_in_month
keeps m t l e = simp (le-leb _ last_day l, eq-eqb _ m e)

-- Day j + 1 of a month that has it is kept.
in-month : (y m j t : ℕ) → is_date y m 1 ≡ true → j < month_length y m → t ≡ day_number y m 1 + j → if_in_month m t ≡ Some t
in-month y m j t h l e =
    let x = (is-date y m 1 h).exists in
    let g : Exists y m (1 + j) = record { y-low = x.y-low; m-low = x.m-low; m-high = x.m-high; d-low = omega arith; d-high = omega arith } in
    let q : t ≡ day_number y m (1 + j) = e ∙ sym (days-on y m 1 j) in
    let r = number-range y m (1 + j) (date-is y m (1 + j) (record { exists = g; y-high = (is-date y m 1 h).y-high })) in
    keeps m t (omega (arith, q, r)) (ap (λ (i : ℕ). (date_of i).month) q ∙ ap (λ (t : Date). t.month) (date-of-number (date y m (1 + j)) g))

-- The loop of the last weekday ends (weekday_of n + 7 - w) % 7 days back.
last_step : (w n : ℕ) → last_up_to w (suc n) ≡ cond (eqb (weekday_of (suc n)) w) (suc n) (last_up_to w n)
unfolding last_up_to
last_step w n = refl

-- one day back, and one day less to go
one_less : (w k n : ℕ) → w ≤ 6 → (weekday_of (suc n) + 7 - w) % 7 ≡ suc k → ((weekday_of n + 7 - w) % 7 ≡ k) × (weekday_of (suc n) ≡ w → ⊥)
unfolding weekday_of
one_less w k n h e = omega arith

there : (w n : ℕ) → w ≤ 6 → (weekday_of n + 7 - w) % 7 ≡ 0 → weekday_of n ≡ w
unfolding weekday_of
there w n h e = omega arith

back : (w k n : ℕ) → w ≤ 6 → k ≤ n → (weekday_of n + 7 - w) % 7 ≡ k → last_up_to w n ≡ n - k
unfolding last_up_to
back w zero zero h l e = refl
back w zero (suc n) h l e = rw (last_step, eq-eqb _ w (there w (suc n) h e)) (omega arith)
back w (suc k) zero h l e = absurd (omega arith)
back w (suc k) (suc n) h l e =
    let o = one_less w k n h e in
    rw (last_step, ne_eqb _ w o.1) (back w k n h (omega arith) o.0 ∙ omega arith)

pub last-up-to : (w n : ℕ) → w ≤ 6 → 6 ≤ n → last_up_to w n ≡ n - (weekday_of n + 7 - w) % 7
last-up-to w n h l = back w ((weekday_of n + 7 - w) % 7) n h (omega arith) refl

-- The day before the first of the next month is the last of the month.
month-end-by : (y m : ℕ) (b : Bool) → eqb m 12 ≡ b → Exists y m (month_length y m) → day_number (cond b (y + 1) y) (cond b 1 (m + 1)) 1 ≡ day_number y m (month_length y m) + 1
unfolding day_after
month-end-by y m true e h =
    let q = eqb-true m 12 e in
    let n = next-number (date y m (month_length y m)) h in
    simp (le-ltb (month_length y m) (month_length y m) (omega arith), le-ltb m 12 (omega arith)) at n
month-end-by y m false e h =
    let q = eqb-false m 12 e in
    let k = h.m-high in
    let n = next-number (date y m (month_length y m)) h in
    simp (le-ltb (month_length y m) (month_length y m) (omega arith), lt-ltb m 12 (omega arith)) at n

pub month-end : (y m : ℕ) → is_date y m 1 ≡ true → day_number (next_year y m) (next_month m) 1 ≡ day_number y m (month_length y m) + 1
month-end y m h =
    let x = (is-date y m 1 h).exists in
    month-end-by y m _ refl
    (record { y-low = x.y-low; m-low = x.m-low; m-high = x.m-high; d-low = omega (arith, month-low y m x.m-low x.m-high); d-high = omega arith })

-- Every month but December 9999 has a next one.
pub next-month : (y m : ℕ) → is_date y m 1 ≡ true → (ltb m 12 || ltb y last_year) ≡ is_date (next_year y m) (next_month m) 1
unfolding is_date month_length
next-month y m h =
    let g = is-date y m 1 h in
    let x = g.exists in
    elim (dec_lt m 12) [
      | yes a ↦ simp (lt-ltb m 12 a, ne_eqb m 12 (omega arith)) (sym (date-by y (m + 1) 1 (x.y-low, g.y-high) (omega arith, omega arith) (omega arith, omega (arith, month-low y (m + 1) (omega arith) (omega arith)))))
      | no a ↦ let q : m ≡ 12 = omega (arith, x.m-high) in elim (dec_lt y last_year) [
        | yes b ↦ simp (le-ltb m 12 (omega arith), lt-ltb y last_year b, eq-eqb m 12 q) (sym (date-by (y + 1) 1 1 (omega arith, omega arith) (omega arith, omega arith) (omega arith, omega arith)))
        | no b ↦ simp (le-ltb m 12 (omega arith), le-ltb y last_year (omega arith), eq-eqb m 12 q, lt-leb (y + 1) last_year (omega arith), le-leb 1 (y + 1) (omega arith))
      ]
    ]

-- ---- the last weekday

abbrev pub last_of : ℕ → ℕ → ℕ → ℕ
last_of y m w = last_up_to w (day_number y m (month_length y m))

-- The last w of a month is that weekday, from the 22nd on, and no later day of the month is one.
pub record LastWeekday (y m w t : ℕ) : Type 0 where
  pub weekday : weekday_of t ≡ w
  pub from-22nd : day_number y m 1 + 21 ≤ t
  pub to_last : t ≤ day_number y m (month_length y m)
  pub greatest : (u : ℕ) → t < u → u ≤ day_number y m (month_length y m) → weekday_of u ≡ w → ⊥

pub last-is : (w n : ℕ) → w ≤ 6 → 6 ≤ n → (weekday_of (last_up_to w n) ≡ w) × ((n ≤ last_up_to w n + 6) × (last_up_to w n ≤ n))
unfolding weekday_of
last-is w n h l =
    let e = last-up-to w n h l in
    omega (arith, e)

-- so of the seven days up to day n it is the one on that weekday
one-of-seven : (w n t : ℕ) → w ≤ 6 → weekday_of t ≡ w → t ≤ n → n ≤ t + 6 → last_up_to w n ≡ t
unfolding weekday_of
one-of-seven w n t h e l u = back w (n - t) n h (omega arith) (omega arith) ∙ omega arith

last_none : (w n u : ℕ) → w ≤ 6 → 6 ≤ n → last_up_to w n < u → u ≤ n → weekday_of u ≡ w → ⊥
unfolding weekday_of
last_none w n u h l k j e = omega (arith, last-up-to w n h l)

pub to-28th : (y m : ℕ) → is_date y m 1 ≡ true → day_number y m 1 + 27 ≤ day_number y m (month_length y m)
unfolding day_number
to-28th y m h =
    let x = (is-date y m 1 h).exists in
    omega (arith, month-low y m x.m-low x.m-high)

pub last-weekday : (y m w : ℕ) → is_date y m 1 ≡ true → w ≤ 6 → LastWeekday y m w (last_of y m w)
last-weekday y m w h w6 =
    let n = day_number y m (month_length y m) in
    let k = to-28th y m h in
    let i = last-is w n w6 (omega (arith, k)) in
    record {
      weekday = i.0;
      from-22nd = omega (arith, k, i);
      to_last = i.1.1;
      greatest = λ u. last_none w n u w6 (omega (arith, k));
    }

-- It is the answer wherever there is a next month, and nowhere else.
pub last_found : (y m w : ℕ) → is_date y m 1 ≡ true → w ≤ 6 → is_date (next_year y m) (next_month m) 1 ≡ true → last_weekday_of_month y m w ≡ Some (last_of y m w)
unfolding last_weekday_of_month first_of_next
last_found y m w h w6 n =
    let before : day_number (next_year y m) (next_month m) 1 - 1 ≡ day_number y m (month_length y m) = omega (arith, month-end y m h) in
    simp (h, le-leb w 6 w6, n) (ap (λ (i : ℕ). Some (last_up_to w i)) before)

pub end-without-next : (y m w k : ℕ) → is_date y m 1 ≡ true → w ≤ 6 → is_date (next_year y m) (next_month m) 1 ≡ false → nth_weekday_of_month y m w (negsuc k) ≡ None
unfolding weeks_before_last last_weekday_of_month first_of_next
end-without-next y m w k h w6 n = simp (h, le-leb w 6 w6, n) (never (ltb k most_nth))

pub record HasLast (y m w : ℕ) : Type 0 where
  pub is-month : is_date y m 1 ≡ true
  pub is-weekday : w ≤ 6
  pub has-next : is_date (next_year y m) (next_month m) 1 ≡ true

has_last : (y m w t : ℕ) → last_weekday_of_month y m w ≡ Some t → HasLast y m w
unfolding last_weekday_of_month first_of_next
has_last y m w t e =
    let c = when-day (is_date y m 1 && leb w 6) _ t e in
    record {
      is-month = and_left (is_date y m 1) _ c.0;
      is-weekday = leb-true w 6 (and_right (is_date y m 1) _ c.0);
      has-next = by (is_date (next_year y m) (next_month m) 1) _ c.1;
    }
  where
    by : (b : Bool) (n : ℕ) → option_map (λ n. last_up_to w (n - 1)) (cond b (Some n) None) ≡ Some t → b ≡ true
    by true n q = refl
    by false n q = absurd (none-no-day t q)

-- ---- n weeks from the first, or from the last

-- The first four are in the month itself, and so are the last four.
pub nth-early : (y m w n : ℕ) → is_date y m 1 ≡ true → w ≤ 6 → 1 ≤ n → n ≤ 4 → nth_from_start y m w n ≡ Some (target_day y m w n)
unfolding nth_from_start target_day
nth-early y m w n h w6 n1 n4 =
    let f = first-near (day_number y m 1) w in
    let x = (is-date y m 1 h).exists in
    let t = first_from (day_number y m 1) w + 7 * (n - 1) in
    simp (h, le-leb w 6 w6, le-leb 1 n n1)
    (in-month y m (t - day_number y m 1) t h (omega (arith, f, month-low y m x.m-low x.m-high)) (omega (arith, f)))

-- The nth of them is one of the seven days up to the 7 * n of the month,
pub week-from-start : (y m w n : ℕ) → w ≤ 6 → 1 ≤ n → last_up_to w (day_number y m (7 * n)) ≡ target_day y m w n
unfolding day_number target_day
week-from-start y m w n h l =
    let s = day_number y m 1 in
    let f = first-near s w in
    one-of-seven w _ _ h (weekday-weeks (first_from s w) (n - 1) ∙ first-is s w h) (omega (arith, f)) (omega (arith, f))

-- and the one k weeks before the last is one of those up to 7 * k days before the end.
pub week-from-end : (y m w k : ℕ) → w ≤ 6 → 7 * k + 7 ≤ month_length y m → last_up_to w (day_number y m (month_length y m - 7 * k)) ≡ last_of y m w - 7 * k
unfolding day_number
week-from-end y m w k h l =
    let i = last-is w (day_number y m (month_length y m)) h (omega arith) in
    let weeks : last_of y m w - 7 * k + 7 * k ≡ last_of y m w = omega (arith, i.1, l) in
    one-of-seven w _ (last_of y m w - 7 * k) h (sym (weekday-weeks (last_of y m w - 7 * k) k) ∙ ap weekday_of weeks ∙ i.0) (omega (arith, i.1, l)) (omega (arith, i.1, l))

before-found : (m k t s : ℕ) → s ≡ t + 7 * k → 1 ≤ t → if_in_month m t ≡ Some t → weeks_before m k s ≡ Some t
unfolding weeks_before
before-found m k t s e l f =
    let q : s - 7 * k ≡ t = omega arith in
    simp (lt-ltb (7 * k) s (omega arith), q) f

pub end-early : (y m w k : ℕ) → HasLast y m w → k ≤ 3 → weeks_before_last y m w k ≡ Some (last_of y m w - 7 * k)
unfolding weeks_before_last day_number
end-early y m w k h k3 =
    let l = last-weekday y m w h.is-month h.is-weekday in
    let t = last_of y m w - 7 * k in
    simp (last_found y m w h.is-month h.is-weekday h.has-next)
    (before-found m k t (last_of y m w) (omega (arith, l.from-22nd)) (omega (arith, l.from-22nd))
    (in-month y m (t - day_number y m 1) t h.is-month (omega (arith, l.from-22nd, l.to_last)) (omega (arith, l.from-22nd))))

-- n = -1 is the last.
pub nth_last : (y m w : ℕ) → weeks_before_last y m w 0 ≡ last_weekday_of_month y m w
unfolding weeks_before_last
nth_last y m w = by (last_weekday_of_month y m w) refl
  where
    by : (r : Option ℕ) → last_weekday_of_month y m w ≡ r → option_and_then (weeks_before m 0) r ≡ r
    by (Some t) e =
        let h = has_last y m w t e in
        let q = last_found y m w h.is-month h.is-weekday h.has-next in
        ap (option_and_then (weeks_before m 0)) (sym e) ∙ end-early y m w 0 h (lit≤ tt) ∙ ap Some (omega arith) ∙ sym q ∙ e
    by None e = refl

-- ---- signed

-- so many weeks after the first w of the month or, below 0, before the last
abbrev pub Weeks : ℕ → ℕ → ℕ → ℤ → ℕ → Type 0
Weeks y m w (pos n) t = t ≡ first_from (day_number y m 1) w + 7 * (n - 1)
Weeks y m w (negsuc k) t = t + 7 * k ≡ last_of y m w

-- the n that can have an answer in the month
abbrev pub InLimits : ℕ → ℕ → ℤ → Type 0
InLimits y m (pos n) = (1 ≤ n) × (n ≤ most_nth)
InLimits y m (negsuc k) = (k < most_nth) × (is_date (next_year y m) (next_month m) 1 ≡ true)

-- What an answer says: so many weeks on or back, in a month of that number; and so on that weekday (`weekday-is`).
pub record IsNth (y m w : ℕ) (n : ℤ) (t : ℕ) : Type 0 where
  pub is-month : is_date y m 1 ≡ true
  pub is-weekday : w ≤ 6
  pub limits : InLimits y m n
  pub weeks : Weeks y m w n t
  pub month : (date_of t).month ≡ m
  pub low : 1 ≤ t
  pub high : t ≤ last_day

from_start : (y m w n t : ℕ) → n ≤ most_nth → nth_from_start y m w n ≡ Some t → IsNth y m w (pos n) t
unfolding nth_from_start target_day
from_start y m w n t h e =
    let c = when-day (is_date y m 1 && leb w 6 && leb 1 n) _ t e in
    let asked = and_left (is_date y m 1 && leb w 6) _ c.0 in
    let is-month = and_left (is_date y m 1) _ asked in
    let k = kept m t _ c.1 in
    record {
      is-month = is-month;
      is-weekday = leb-true w 6 (and_right (is_date y m 1) _ asked);
      limits = (leb-true 1 n (and_right (is_date y m 1 && leb w 6) _ c.0), h);
      weeks = sym k.0;
      month = k.2;
      low = omega (arith, k.0, first-near (day_number y m 1) w, number-range y m 1 is-month);
      high = k.1;
    }

from_end : (y m w k t : ℕ) → k < most_nth → weeks_before_last y m w k ≡ Some t → IsNth y m w (negsuc k) t
unfolding weeks_before_last weeks_before
from_end y m w k t h e = by (last_weekday_of_month y m w) refl e
  where
    by : (r : Option ℕ) → last_weekday_of_month y m w ≡ r → option_and_then (weeks_before m k) r ≡ Some t → IsNth y m w (negsuc k) t
    by (Some s) p q =
        let l = has_last y m w s p in
        let same : last_of y m w ≡ s = cc (last_found y m w l.is-month l.is-weekday l.has-next) in
        let c = when-day (ltb (7 * k) s) _ t q in
        let b = ltb-true (7 * k) s c.0 in
        let i = kept m t (s - 7 * k) c.1 in
        record {
          is-month = l.is-month;
          is-weekday = l.is-weekday;
          limits = (h, l.has-next);
          weeks = omega (arith, same, i.0);
          month = i.2;
          low = omega (arith, i.0);
          high = i.1;
        }
    by None p q = absurd (none-no-day t q)

pub nth-weekday : (y m w : ℕ) (n : ℤ) (t : ℕ) → nth_weekday_of_month y m w n ≡ Some t → IsNth y m w n t
nth-weekday y m w (pos n) t e =
    let c = when-day (leb n most_nth) _ t e in
    from_start y m w n t (leb-true n most_nth c.0) c.1
nth-weekday y m w (negsuc k) t e =
    let c = when-day (ltb k most_nth) _ t e in
    from_end y m w k t (ltb-true k most_nth c.0) c.1

-- There is no answer without a month or a weekday.
pub not-asked : (y m w : ℕ) (n : ℤ) → (is_date y m 1 && leb w 6) ≡ false → nth_weekday_of_month y m w n ≡ None
unfolding nth_from_start weeks_before_last last_weekday_of_month
not-asked y m w (pos n) e = simp e (never (leb n most_nth))
not-asked y m w (negsuc k) e = simp e (never (ltb k most_nth))

-- Wherever the target lies in such a month, it is the answer.
pub nth-found : (y m w : ℕ) (n : ℤ) (t : ℕ) → IsNth y m w n t → nth_weekday_of_month y m w n ≡ Some t
unfolding nth_from_start target_day weeks_before_last
nth-found y m w (pos n) t d =
    simp (le-leb n most_nth d.limits.1, d.is-month, le-leb w 6 d.is-weekday, le-leb 1 n d.limits.0)
    (ap (if_in_month m) (sym d.weeks) ∙ keeps m t d.high d.month)
nth-found y m w (negsuc k) t d =
    simp (lt-ltb k most_nth d.limits.0, last_found y m w d.is-month d.is-weekday d.limits.1)
    (before-found m k t (last_of y m w) (sym d.weeks) d.low (keeps m t d.high d.month))

pub weekday-is : (y m w : ℕ) (n : ℤ) (t : ℕ) → IsNth y m w n t → weekday_of t ≡ w
weekday-is y m w (pos n) t d =
    ap weekday_of d.weeks ∙ weekday-weeks (first_from (day_number y m 1) w) (n - 1) ∙ first-is (day_number y m 1) w d.is-weekday
weekday-is y m w (negsuc k) t d =
    sym (weekday-weeks t k) ∙ ap weekday_of d.weeks ∙ (last-weekday y m w d.is-month d.is-weekday).weekday

-- Each answer is a day of years 1 to 9999, or none.
pub nth-in-years : (y m w : ℕ) (n : ℤ) → InYears (nth_weekday_of_month y m w n)
nth-in-years y m w n = by (nth_weekday_of_month y m w n) refl
  where
    by : (r : Option ℕ) → nth_weekday_of_month y m w n ≡ r → InYears r
    by (Some t) e = let d = nth-weekday y m w n t e in (d.low, d.high)
    by None e = tt
