-- The laws of lists of days, of the day of an answer, and of the days that every year has.
-- Assumes nothing.
use Rattle.std.proofs.Common.{Option, Some, None}
use Prim.Native.Nat.{ℕ, ◌+◌, ◌-◌, ◌≤◌}
use mathlib.Core.Path.{◌≡◌, refl, ap, sym, ◌∙◌}
use mathlib.Core.Bool.{Bool, true, false, cond, ◌&&◌, ◌||◌}
use mathlib.Core.List.{List, [], ◌∷◌, ◌++◌}
use lib.Dec.{leb, eqb}
use lib.ListN.{get_or}
use lib.IntN.{ℤ}
use native.Mathlib.Omega.{arith}
use borrow.Author.Tests.{leb-true, le-leb, eqb-true, ne_eqb}
use Rattle.gregorian.specs.Calendar.{saturday, sunday, weekday_of, month_lengths, month_length, day_number, last_year, is_date}
use Rattle.gregorian.proofs.Tests.{and_left, and_right}
use Rattle.gregorian.proofs.Total.{upto}
use Rattle.gregorian.proofs.Laws.{date-by}
use Rattle.utils.specs.Weekday.{nth_weekday_of_month}
use Rattle.utils.proofs.WeekdayLaws.{nth-weekday, weekday-is}
use Rattle.rule_days.specs.Days.{contains, insert, insert_if, insert_day, is_day, match_weekend, adjust_for_weekend}
use Rattle.rule_days.specs.Inner.{is_between, every_year_has}

pub or_assoc : (a b c : Bool) → (a || (b || c)) ≡ (a || b || c)
or_assoc true b c = refl
or_assoc false b c = refl

pub or-false : (a : Bool) → (a || false) ≡ a
or-false true = refl
or-false false = refl

-- what a list contains after an insertion
contains-append : (ds : List ℕ) (d n : ℕ) → contains (ds ++ d ∷ []) n ≡ (contains ds n || eqb n d)
unfolding contains
contains-append [] d n = or-false (eqb n d)
contains-append (x ∷ ds) d n = ap (λ (b : Bool). eqb n x || b) (contains-append ds d n) ∙ or_assoc (eqb n x) (contains ds n) (eqb n d)

pub contains-none : (n : ℕ) → contains [] n ≡ false
unfolding contains
contains-none n = refl

pub contains-insert : (ds : List ℕ) (d n : ℕ) → contains (insert ds d) n ≡ (contains ds n || eqb n d)
unfolding insert
contains-insert ds d n = contains-append ds d n

pub contains-if : (ds : List ℕ) (b : Bool) (d n : ℕ) → contains (insert_if ds b d) n ≡ (contains ds n || b && eqb n d)
unfolding insert_if
contains-if ds true d n = contains-insert ds d n
contains-if ds false d n = sym (or-false (contains ds n))

pub contains-day : (ds : List ℕ) (r : Option ℕ) (n : ℕ) → contains (insert_day ds r) n ≡ (contains ds n || is_day r n)
unfolding insert_day
contains-day ds (Some d) n = contains-insert ds d n
contains-day ds None n = sym (or-false (contains ds n))

-- whether n is the day of an answer
pub day-is : (r : Option ℕ) (d n : ℕ) → Some d ≡ r → eqb n d ≡ is_day r n
day-is r d n e = ap (λ (o : Option ℕ). is_day o n) e

-- A day that is not between two others is not one that is.
pub not-between : (first last d n : ℕ) → first ≤ d → d ≤ last → is_between first last n ≡ false → false ≡ eqb n d
not-between first last d n l u e = by (eqb n d) refl
  where
    by : (b : Bool) → eqb n d ≡ b → false ≡ b
    by true q =
        let p = eqb-true n d q in
        let between : is_between first last n ≡ true = simp (le-leb first n (omega (arith, p, l)), le-leb n last (omega (arith, p, u))) in
        sym e ∙ between
    by false q = refl

-- The answer of a rule that names a weekday is that weekday, and so no other day.
other-weekday : (r : Option ℕ) (w n : ℕ) → ((d : ℕ) → r ≡ Some d → weekday_of d ≡ w) → (weekday_of n ≡ w → ⊥) → false ≡ is_day r n
other-weekday (Some d) w n h k = sym (ne_eqb n d (λ q. k (ap weekday_of q ∙ h d refl)))
other-weekday None w n h k = refl

pub not-nth : (y m w : ℕ) (k : ℤ) (n : ℕ) → (weekday_of n ≡ w → ⊥) → false ≡ is_day (nth_weekday_of_month y m w k) n
not-nth y m w k n = other-weekday _ w n (λ d e. weekday-is y m w k d (nth-weekday y m w k d e))

-- Where a `match` on the weekend leads to.
match-between : (first last n s t : ℕ) → (first ≤ n) × (n ≤ last) → (first ≤ s) × (s ≤ last) → (first ≤ t) × (t ≤ last)
    → (first ≤ match_weekend n s t) × (match_weekend n s t ≤ last)
unfolding match_weekend
match-between first last n s t h k l = by (eqb (weekday_of n) saturday) (eqb (weekday_of n) sunday)
  where
    by : (a b : Bool) → (first ≤ cond a s (cond b t n)) × (cond a s (cond b t n) ≤ last)
    by true b = k
    by false true = l
    by false false = h

-- A holiday that moves is no day beyond those that it moves to.
pub not-moved : (first last d s t n : ℕ) → (first ≤ d) × (d ≤ last) → (first ≤ s) × (s ≤ last) → (first ≤ t) × (t ≤ last)
    → is_between first last n ≡ false → false ≡ eqb n (match_weekend d s t)
not-moved first last d s t n h k l =
    let moved = match-between first last d s t h k l in
    not-between first last (match_weekend d s t) n moved.0 moved.1

pub not-observed : (d n : ℕ) → is_between d (d + 2) n ≡ false → false ≡ eqb n (adjust_for_weekend d)
not-observed d n = not-moved d (d + 2) d (d + 2) (d + 1) n (omega arith) (omega arith) (omega arith)

-- The arms of a `match` on the weekday of d, which is day n: one of a weekday k, and the last.
pub on-key : (f g : ℕ → ℕ) (d n k : ℕ) → weekday_of d ≡ k → d ≡ n → cond (eqb k saturday) (f d) (cond (eqb k sunday) (g d) d) ≡ match_weekend n (f n) (g n)
unfolding match_weekend
on-key f g d n k e q =
    ap (λ (w : ℕ). cond (eqb w saturday) (f d) (cond (eqb w sunday) (g d) d)) (sym e) ∙ ap (λ (i : ℕ). match_weekend i (f i) (g i)) q

pub on-weekday : (f g : ℕ → ℕ) (d n : ℕ) → (weekday_of d ≡ saturday → ⊥) → (weekday_of d ≡ sunday → ⊥) → d ≡ n → d ≡ match_weekend n (f n) (g n)
unfolding match_weekend
on-weekday f g d n p q e =
    (simp (ne_eqb (weekday_of d) saturday p, ne_eqb (weekday_of d) sunday q)) ∙ on-key f g d n (weekday_of d) refl e

pub day-low : (y m d : ℕ) → d ≤ day_number y m d
unfolding day_number
day-low y m d = omega arith

-- from one day of a month to another
pub day-from : (y m d e : ℕ) → day_number y m d - d + e ≡ day_number y m e
unfolding day_number
day-from y m d e = omega arith

-- A day that every year has is a date in each of years 1 to 9999.
short-length : (y m : ℕ) → m ≤ 12 → get_or (month_lengths 0) m 0 ≤ month_length y m
unfolding month_length
short-length y m h = upto (λ m. get_or (month_lengths 0) m 0 ≤ month_length y m) 13 (omega arith) m (omega arith)

pub every-year-date : (y m d : ℕ) → (1 ≤ y) × (y ≤ last_year) × (every_year_has m d ≡ true) → is_date y m d ≡ true
every-year-date y m d h =
    let t₂ = leb 1 m && leb m 12 in
    let t₃ = t₂ && leb 1 d in
    let e₃ = and_left t₃ _ h.2 in
    let e₂ = and_left t₂ _ e₃ in
    let m-high = leb-true m 12 (and_right (leb 1 m) _ e₂) in
    date-by y m d (h.0, h.1) (leb-true 1 m (and_left (leb 1 m) _ e₂), m-high)
    (leb-true 1 d (and_right t₂ _ e₃), omega (arith, leb-true d _ (and_right t₃ _ h.2), short-length y m m-high))
