-- The holidays of the UK by their months.
-- Assumes nothing.
use Prim.Native.Nat.{ℕ, ◌+◌, ◌≤◌}
use mathlib.Core.Path.{◌≡◌, refl, ap, sym, ◌∙◌}
use mathlib.Core.Bool.{Bool, true, false, cond, ◌||◌}
use mathlib.Core.List.{List}
use lib.Dec.{eqb, lit≤}
use lib.IntN.{pos}
use native.Mathlib.Omega.{arith}
use borrow.Author.Tests.{eqb-true, eqb-false, ne_eqb}
use Rattle.gregorian.specs.Calendar.{monday, friday, saturday, sunday, day_number, weekday_of}
use Rattle.gregorian.proofs.Laws.{days-on}
use Rattle.gregorian.proofs.Weekdays.{weekday-after}
use Rattle.gregorian.specs.declared.days.CalendarDay.{CalendarDay}
use Rattle.utils.specs.Weekday.{minus}
use Rattle.rule_days.specs.Days.{contains, insert, adjust_for_weekend}
use Rattle.rule_days.specs.Inner.{any_of, is_between}
use Rattle.markets.specs.Uk.{add_boxing_day, get_uk_holidays}
use Rattle.markets.specs.Inner.{is_one_of_two, is_christmas_or_boxing_day, uk_rules}
use Rattle.rule_days.proofs.DayLaws.{contains-none, contains-insert, contains-day, not-between, on-key, on-weekday}
use Rattle.rule_days.proofs.RuleMonths.{◌and◌, by-month, near, observed, nth, good-friday, easter-monday}

-- The arms of the code, one of a weekday k, and the last.
pub christmas-on : (k y n d w : ℕ) → w ≡ k → w ≡ weekday_of d → d ≡ day_number y 12 25 → is_one_of_two n d k ≡ is_christmas_or_boxing_day y n
unfolding is_christmas_or_boxing_day
christmas-on k y n d w e f g = ap (is_one_of_two n d) (sym e ∙ f) ∙ ap (λ (x : ℕ). is_one_of_two n x (weekday_of x)) g

pub christmas-else : (y n d : ℕ) → d ≡ day_number y 12 25 → (weekday_of d ≡ friday → ⊥) → (weekday_of d ≡ saturday → ⊥) → (weekday_of d ≡ sunday → ⊥) → (eqb n d || eqb n (d + 1)) ≡ is_christmas_or_boxing_day y n
christmas-else y n d g p q r =
    (simp (ne_eqb (weekday_of d) friday p, ne_eqb (weekday_of d) saturday q, ne_eqb (weekday_of d) sunday r)) ∙ christmas-on (weekday_of d) y n d _ refl refl g

-- A day but 25 to 28 December is none of the two.
not-one-of-two : (n d w : ℕ) → is_between d (d + 3) n ≡ false → false ≡ is_one_of_two n d w
not-one-of-two n d w e = by (eqb w friday) (eqb w saturday) (eqb w sunday)
  where
    is-not : (i : ℕ) → d ≤ i → i ≤ d + 3 → false ≡ eqb n i
    is-not i l u = not-between d (d + 3) i n l u e

    neither : (i k : ℕ) → (d ≤ i) × (i ≤ d + 3) → (d ≤ k) × (k ≤ d + 3) → false ≡ (eqb n i || eqb n k)
    neither i k p q = λ j. is-not i p.0 p.1 j || is-not k q.0 q.1 j

    by : (p q r : Bool) → false ≡ cond p (eqb n d || eqb n (d + 3)) (cond q (eqb n (d + 2) || eqb n (d + 3)) (cond r (eqb n (d + 1) || eqb n (d + 2)) (eqb n d || eqb n (d + 1))))
    by true q r = neither d (d + 3) (omega arith) (omega arith)
    by false true r = neither (d + 2) (d + 3) (omega arith) (omega arith)
    by false false true = neither (d + 1) (d + 2) (omega arith) (omega arith)
    by false false false = neither d (d + 1) (omega arith) (omega arith)

pub not-christmas-or-boxing-day : (y n : ℕ) → is_between (day_number y 12 25) (day_number y 12 25 + 3) n ≡ false → false ≡ is_christmas_or_boxing_day y n
unfolding is_christmas_or_boxing_day
not-christmas-or-boxing-day y n = not-one-of-two n (day_number y 12 25) (weekday_of (day_number y 12 25))

-- Christmas Day is inserted twice, and then Boxing Day.
twice : (h a b : Bool) → (h || a || a || b) ≡ (h || (a || b))
twice true a b = refl
twice false true b = refl
twice false false b = refl

two-days : (ds : List ℕ) (x y z i j n : ℕ) → x ≡ i → y ≡ i → z ≡ j → contains (insert (insert (insert ds x) y) z) n ≡ (contains ds n || (eqb n i || eqb n j))
two-days ds x y z i j n p q r = simp (contains-insert, p, q, r) (twice (contains ds n) (eqb n i) (eqb n j))

-- a day from Monday to Friday does not move
stays : (n : ℕ) → (weekday_of n ≡ saturday → ⊥) → (weekday_of n ≡ sunday → ⊥) → adjust_for_weekend n ≡ n
stays n p q = sym (on-weekday (λ i. i + 2) (λ i. i + 1) n n p q refl)

-- Boxing Day is on a weekend only after a Friday or a Saturday.
boxing-stays : (n : ℕ) → (weekday_of n ≡ friday → ⊥) → (weekday_of n ≡ saturday → ⊥) → adjust_for_weekend (n + 1) ≡ n + 1
boxing-stays n p q = stays (n + 1) (λ h. p ((weekday-after n friday (lit≤ tt)).0 h)) (λ h. q ((weekday-after n saturday (lit≤ tt)).0 h))

-- Christmas Day and add_boxing_day together insert the two days, by the weekday of Christmas Day.
two-days-of : (ds : List ℕ) (y n : ℕ) (p q r : Bool) → eqb (weekday_of (day_number y 12 25)) friday ≡ p → eqb (weekday_of (day_number y 12 25)) saturday ≡ q → eqb (weekday_of (day_number y 12 25)) sunday ≡ r → contains (add_boxing_day (insert ds (adjust_for_weekend (day_number y 12 25))) y) n ≡ (contains ds n || is_christmas_or_boxing_day y n)
unfolding add_boxing_day is_christmas_or_boxing_day
two-days-of ds y n true q r ep eq er =
    let d = days-on y 12 25 in
    let w = eqb-true (weekday_of (day_number y 12 25)) friday ep in
    simp ep (two-days ds _ _ _ (day_number y 12 25) (day_number y 12 25 + 3) n (stays _ (λ h. omega arith) (λ h. omega arith)) refl (omega (arith, d 1)))
two-days-of ds y n false true r ep eq er =
    let d = days-on y 12 25 in
    simp (ep, eq) (two-days ds _ _ _ (day_number y 12 25 + 2) (day_number y 12 25 + 3) n (sym (on-key (λ i. i + 2) (λ i. i + 1) _ _ _ (eqb-true _ saturday eq) refl)) (d 2) (d 3))
two-days-of ds y n false false true ep eq er =
    let d = days-on y 12 25 in
    simp (ep, eq, er) (two-days ds _ _ _ (day_number y 12 25 + 1) (day_number y 12 25 + 2) n (sym (on-key (λ i. i + 2) (λ i. i + 1) _ _ _ (eqb-true _ sunday er) refl)) (d 1) (d 2))
two-days-of ds y n false false false ep eq er =
    let d = days-on y 12 25 in
    let b = ap (λ (i : ℕ). adjust_for_weekend i) (d 1) ∙ boxing-stays _ (eqb-false _ friday ep) (eqb-false _ saturday eq) in
    simp (ep, eq, er) (two-days ds _ _ _ (day_number y 12 25) (day_number y 12 25 + 1) n (stays _ (eqb-false _ saturday eq) (eqb-false _ sunday er)) refl b)

module _ (day : CalendarDay) where
  abbrev year : ℕ
  year = day.date.year

  abbrev n : ℕ
  n = day.number

  abbrev month : ℕ
  month = day.date.month

  pub uk-by-month : contains (get_uk_holidays year) n ≡ any_of month (uk_rules year n)
  unfolding get_uk_holidays
  uk-by-month =
      two-days-of _ year n _ _ _ refl refl refl
      ∙ simp (contains-day, contains-insert, contains-none)
      (by-month month false (uk_rules year n)
      (observed day 1 1 refl refl and good-friday day and easter-monday day and nth day 5 monday (pos 1) and nth day 5 monday (minus 1) and nth day 8 monday (minus 1)
      and near day 12 25 3 (is_christmas_or_boxing_day year n) refl refl (not-christmas-or-boxing-day year n) and tt))
