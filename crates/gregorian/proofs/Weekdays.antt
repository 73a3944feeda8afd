-- The laws of weekdays.
-- Assumes nothing.
use Prim.Native.Nat.{ℕ, zero, suc, ◌+◌, ◌*◌, ◌%◌, ◌≤◌, ◌<◌}
use mathlib.Core.Path.{◌≡◌, refl, ap, sym, ◌∙◌, subst}
use mathlib.Core.Bool.{Bool, true, false, cond}
use lib.Dec.{eqb}
use native.Mathlib.Omega.{arith}
use native.Mathlib.Numerals.{add-one}
use borrow.Author.Tests.{eqb-true, eqb-false}
use Rattle.gregorian.specs.Calendar.{day_number, total, weekday_of}
use Rattle.gregorian.specs.CalendarClaims.{next_weekday, Weekdays, OnlyWeekdays}
use Rattle.gregorian.proofs.YearDays.{years-is}

pub weekday-range : (n : ℕ) → weekday_of n ≤ 6
unfolding weekday_of
weekday-range n = omega arith

pub weekday-weeks : (n k : ℕ) → weekday_of (n + 7 * k) ≡ weekday_of n
unfolding weekday_of
weekday-weeks n k = omega arith

-- from Monday to Saturday, the weekday of the next day is the next number
pub weekday-after : (n w : ℕ) → w < 6 → (weekday_of (n + 1) ≡ w + 1 → weekday_of n ≡ w) × (weekday_of n ≡ w → weekday_of (n + 1) ≡ w + 1)
unfolding weekday_of
weekday-after n w h = (λ e. omega arith, λ e. omega arith)

-- The next weekday is the remainder by 7 of one more.
next_of : (w : ℕ) (b : Bool) → w ≤ 6 → eqb w 6 ≡ b → cond b 0 (w + 1) ≡ (w + 1) % 7
next_of w true h e = let q = eqb-true w 6 e in omega arith
next_of w false h e = let q = eqb-false w 6 e in omega arith

next-is : (w : ℕ) → w ≤ 6 → next_weekday w ≡ (w + 1) % 7
unfolding next_weekday
next-is w h = next_of w _ h refl

-- 1 January 2001
number-2001 : day_number 2001 1 1 ≡ 730486
unfolding day_number total
number-2001 = ap (λ (k : ℕ). k + 1) (years-is 2000)

-- `weekday_of` gives each day its weekday,
weekdays : Weekdays weekday_of
unfolding weekday_of
weekdays = record {
  on-2001-01-01 = ap weekday_of number-2001;
  next = λ n. let e = next-is (weekday_of n) (weekday-range n) in omega (arith, e);
}

-- and no other function does.
-- The weekday before a weekday is one.
before-is : (w : ℕ) (b : Bool) → eqb w 6 ≡ b → cond b 0 (w + 1) ≤ 6 → w ≤ 6
before-is w true e h = let q = eqb-true w 6 e in omega arith
before-is w false e h = omega arith

module _ (f : ℕ → ℕ) (h : Weekdays f) where
  -- so it is back from 1 January 2001
  range-before : (k n : ℕ) → n + k ≡ 730486 → f n ≤ 6
  unfolding next_weekday
  range-before zero n e =
      let d : n ≡ day_number 2001 1 1 = omega (arith, number-2001) in
      let m = ap f d ∙ h.on-2001-01-01 in
      omega (arith, m)
  range-before (suc k) n e = before-is (f n) _ refl (subst (λ (w : ℕ). w ≤ 6) (h.next n) (range-before k (n + 1) (omega arith)))

  from_start : (n : ℕ) → f n ≡ (f 0 + n) % 7
  from_start zero = let r = range-before 730486 0 refl in omega (arith, r)
  from_start (suc n) =
      let r = range-before 730486 0 refl in
      let i = from_start n in
      let e = ap f (sym (add-one n)) ∙ h.next n ∙ next-is (f n) (omega (arith, i)) in
      omega (arith, e, i)

  no_other : (n : ℕ) → f n ≡ weekday_of n
  unfolding weekday_of
  no_other n =
      let r = range-before 730486 0 refl in
      let m = sym (from_start 730486) ∙ ap f (sym number-2001) ∙ h.on-2001-01-01 in
      let s : f 0 ≡ 6 = omega (arith, r, m) in
      from_start n ∙ omega arith

pub only-weekdays : OnlyWeekdays
only-weekdays = record { weekdays = weekdays; no_other = no_other }
