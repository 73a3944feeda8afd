-- The holidays of Japan by their months: docs/SCOPE.md [month-first], [tse-substitute].
-- Assumes nothing.
use Rattle.std.proofs.Common.{Option, Some, None}
use Prim.Native.Nat.{ℕ, zero, suc, ◌+◌, ◌-◌, ◌*◌, ◌≤◌, ◌<◌}
use mathlib.Core.Path.{◌≡◌, refl, ap, sym, ◌∙◌, subst}
use mathlib.Core.Bool.{Bool, true, false, cond, ◌&&◌, ◌||◌}
use mathlib.Core.List.{List, [], ◌∷◌, ◌++◌}
use mathlib.Core.Logic.{◌⊎◌, inl, inr, ⊎_elim}
use lib.Dec.{ltb, leb, eqb, lit≤}
use lib.ListN.{get_or}
use lib.IntN.{pos}
use native.Mathlib.Omega.{arith}
use native.Mathlib.Nat.{eq-or-lt_of_le, le_of_suc-le-suc}
use borrow.Author.Tests.{leb-true, ltb-true, eqb-true, ne_eqb}
use Rattle.gregorian.specs.Calendar.{monday, friday, sunday, day_number, last_year, weekday_of, date}
use Rattle.gregorian.specs.declared.days.CalendarDay.{CalendarDay}
use Rattle.gregorian.proofs.Tests.{and_left, and_right, and-false}
use Rattle.gregorian.proofs.Laws.{days-on, is-date, number-before}
use Rattle.utils.specs.Weekday.{nth_weekday_of_month}
use Rattle.utils.proofs.WeekdayLaws.{when-day, first-near, nth-weekday}
use Rattle.rule_days.specs.Inner.{any_of, is_between, every_year_has, every_between}
use Rattle.rule_days.proofs.RuleMonths.{Fits, ◌and◌, by-month, year-range, near, fixed, nth}
use Rattle.rule_days.specs.Days.{contains, insert, insert_if, insert_day, is_day}
use Rattle.japan.specs.Japan.{substitute_day, add_with_substitute, add_day_with_substitute, vernal_days, autumnal_days, equinox, apply_golden_week_rules, get_japan_holidays}
use Rattle.japan.specs.Inner.{is_with_substitute, is_day_with_substitute, is_bridge_day, japan_rules}
use Rattle.rule_days.proofs.DayLaws.{or_assoc, or-false, contains-none, contains-insert, contains-if, not-between, every-year-date}

-- The equinoxes: what is computed of a table holds of each of its days.
between : (low high : ℕ) (list : List ℕ) (k i : ℕ) → every_between low high list k ≡ true → i < k → (low ≤ get_or list i 0) × (get_or list i 0 ≤ high)
between low high list zero i e h = absurd (omega arith)
between low high list (suc k) i e h =
    let l = leb low (get_or list k 0) in
    let u = leb (get_or list k 0) high in
    let here = and_left (l && u) _ e in
    ⊎_elim (λ (q : i ≡ k). subst (λ (m : ℕ). (low ≤ get_or list m 0) × (get_or list m 0 ≤ high)) (sym q) (leb-true low _ (and_left l _ here), leb-true _ high (and_right l _ here)))
    (λ (q : i < k). between low high list k i (and_right (l && u) _ e) q)
    (eq-or-lt_of_le (le_of_suc-le-suc h))

pub equinox-day : (days : List ℕ) (y : ℕ) → 2020 ≤ y → y ≤ 2030 → every_between 1 28 days 11 ≡ true → get_or days (y - 2020) 0 ≤ 31
equinox-day days y l h k = omega (arith, between 1 28 days 11 (y - 2020) k (omega arith))

day-order : (y m d e : ℕ) → d ≤ e → day_number y m d ≤ day_number y m e
unfolding day_number
day-order y m d e h = omega arith

equinox-near : (days : List ℕ) (low high m y t : ℕ) → every_between low high days 11 ≡ true → equinox days y m ≡ Some t → (day_number y m low ≤ t) × (t ≤ day_number y m high)
unfolding equinox
equinox-near days low high m y t k e =
    let c = when-day (leb 2020 y && leb y 2030) (Some (day_number y m (get_or days (y - 2020) 0))) t e in
    let l = leb-true 2020 y (and_left (leb 2020 y) _ c.0) in
    let h = leb-true y 2030 (and_right (leb 2020 y) _ c.0) in
    let d = between low high days 11 (y - 2020) k (omega arith) in
    let q : day_number y m (get_or days (y - 2020) 0) ≡ t = cc c.1 in
    (subst (λ (i : ℕ). day_number y m low ≤ i) q (day-order y m _ _ d.0), subst (λ (i : ℕ). i ≤ day_number y m high) q (day-order y m _ _ d.1))

-- the nth weekday is in the first n weeks of the month
nth-high : (y m w n t : ℕ) → nth_weekday_of_month y m w (pos n) ≡ Some t → 1 ≤ n → t ≤ day_number y m (7 * n)
unfolding day_number
nth-high y m w n t e h = omega (arith, (nth-weekday y m w (pos n) t e).weeks, first-near (day_number y m 1) w)

-- two days that every year has, one before the other
abbrev in_order : ℕ → ℕ → ℕ → ℕ → Bool
in_order m d k e = every_year_has m d && every_year_has k e && (ltb m k || eqb m k && ltb d e)

-- Days of a list, all at most b.
abbrev UpTo : List ℕ → ℕ → Type 0
UpTo [] b = Unit {0}
UpTo (d ∷ ds) b = (d ≤ b) × UpTo ds b

up-to-more : (ds : List ℕ) (a b : ℕ) → a ≤ b → UpTo ds a → UpTo ds b
up-to-more [] a b h u = tt
up-to-more (d ∷ ds) a b h u = (omega (arith, h, u.0), up-to-more ds a b h u.1)

up-to-append : (ds : List ℕ) (d b : ℕ) → UpTo ds b → d ≤ b → UpTo (ds ++ d ∷ []) b
up-to-append [] d b u h = (h, tt)
up-to-append (x ∷ ds) d b u h = (u.0, up-to-append ds d b u.1 h)

up-to-insert : (ds : List ℕ) (d b : ℕ) → UpTo ds b → d ≤ b → UpTo (insert ds d) b
unfolding insert
up-to-insert ds d b u h = up-to-append ds d b u h

up-to-if : (ds : List ℕ) (t : Bool) (d b : ℕ) → UpTo ds b → d ≤ b → UpTo (insert_if ds t d) b
unfolding insert_if
up-to-if ds true d b u h = up-to-insert ds d b u h
up-to-if ds false d b u h = u

-- a later day is not among them
free : (ds : List ℕ) (b n : ℕ) → UpTo ds b → b < n → contains ds n ≡ false
unfolding contains
free [] b n u h = refl
free (d ∷ ds) b n u h = simp (ne_eqb n d (λ e. omega (arith, u.0, h)), free ds b n u.1 h)

-- What is known of a list as it is built up: a test that says what it contains, and a day that none of its days is after.
record Account (ds : List ℕ) (test : ℕ → Bool) (b : ℕ) : Type 0 where
  same : (n : ℕ) → contains ds n ≡ test n
  high : UpTo ds b

start : Account [] (λ n. false) 0
start = record { same = contains-none; high = tt }

later : {ds : List ℕ} {test : ℕ → Bool} {a : ℕ} → Account ds test a → (b : ℕ) → a ≤ b → Account ds test b
later {ds} {test} {a} s b h = record { same = s.same; high = up-to-more ds a b h s.high }

put : {ds : List ℕ} {test : ℕ → Bool} {a : ℕ} → Account ds test a → (d b : ℕ) → a ≤ b → d ≤ b → Account (insert ds d) (λ n. test n || eqb n d) b
put {ds} {test} {a} s d b h k =
    record { same = λ n. contains-insert ds d n ∙ ap (λ (t : Bool). t || eqb n d) (s.same n); high = up-to-insert ds d b (up-to-more ds a b h s.high) k }

-- An answer's day, and none.
put-none : {ds : List ℕ} {test : ℕ → Bool} {a : ℕ} → Account ds test a → (b : ℕ) → a ≤ b → Account ds (λ n. test n || false) b
put-none {ds} {test} {a} s b h =
    record { same = λ n. s.same n ∙ sym (or-false (test n)); high = up-to-more ds a b h s.high }

put-day : {ds : List ℕ} {test : ℕ → Bool} {a : ℕ} → Account ds test a → (r : Option ℕ) (b : ℕ) → a ≤ b → ((t : ℕ) → r ≡ Some t → t ≤ b) → Account (insert_day ds r) (λ n. test n || is_day r n) b
unfolding insert_day
put-day s (Some t) b h k = put s t b h (k t refl)
put-day s None b h k = put-none s b h

-- A date with its substitute, which is the next day: where the date is not before the days of the list, that day is free.
first-attempt : (ds : List ℕ) (k n : ℕ) → contains ds n ≡ false → substitute_day ds (suc k) n ≡ Some n
unfolding substitute_day
first-attempt ds k n e = simp e

add-by : {ds : List ℕ} {test : ℕ → Bool} {a : ℕ} → Account ds test a → (d : ℕ) → a ≤ d → (t : Bool) → Account (cond t (insert_day (insert ds d) (substitute_day (insert ds d) 7 (d + 1))) (insert ds d)) (λ n. test n || (eqb n d || t && eqb n (d + 1))) (d + 1)
unfolding insert_day
add-by {ds} {test} {a} s d h true =
    let i = put s d d h (omega arith) in
    let e = first-attempt (insert ds d) 6 (d + 1) (free (insert ds d) d (d + 1) i.high (omega arith)) in
    let j = put i (d + 1) (d + 1) (omega arith) (omega arith) in
    subst (λ (r : Option ℕ). Account (insert_day (insert ds d) r) (λ n. test n || (eqb n d || eqb n (d + 1))) (d + 1)) (sym e)
    (record { same = λ n. j.same n ∙ sym (or_assoc (test n) (eqb n d) (eqb n (d + 1))); high = j.high })
add-by {ds} {test} {a} s d h false =
    let i = put s d (d + 1) (omega arith) (omega arith) in
    record { same = λ n. i.same n ∙ ap (λ (t : Bool). test n || t) (sym (or-false (eqb n d))); high = i.high }

add : {ds : List ℕ} {test : ℕ → Bool} {a : ℕ} → Account ds test a → (d : ℕ) → a ≤ d → Account (add_with_substitute ds d) (λ n. test n || is_with_substitute d n) (d + 1)
unfolding add_with_substitute
add s d h = add-by s d h (eqb (weekday_of d) sunday)

add-day : {ds : List ℕ} {test : ℕ → Bool} {a : ℕ} → Account ds test a → (r : Option ℕ) (b : ℕ) → a ≤ b → ((t : ℕ) → r ≡ Some t → (a ≤ t) × (t + 1 ≤ b)) → Account (add_day_with_substitute ds r) (λ n. test n || is_day_with_substitute r n) b
unfolding add_day_with_substitute
add-day s (Some t) b h k = let g = k t refl in later (add s t g.0) b g.1
add-day s None b h k = put-none s b h

-- Golden Week: the rule for a Friday 3 May and a Sunday 5 May adds what the substitute of 5 May has added.
without : (p a b c d e : Bool) → (d ≡ true → p ≡ true) → (p || a || b || c || d || e) ≡ (p || a || (b || c || e))
without true a b c d e h = refl
without false a b c true e h = cc (h refl)
without false a b c false e h = ap (λ (t : Bool). t || e) (or-false (a || b || c)) ∙ sym (or_assoc a (b || c) e ∙ ap (λ (t : Bool). t || e) (or_assoc a b c))

or-true : (a : Bool) → (a || true) ≡ true
or-true true = refl
or-true false = refl

substituted : (y n : ℕ) (q f : Bool) → (f && eqb (weekday_of (day_number y 5 5)) sunday && eqb n (day_number y 5 6)) ≡ true → (q || is_with_substitute (day_number y 5 5) n) ≡ true
substituted y n q f e =
    let t = eqb (weekday_of (day_number y 5 5)) sunday in
    let w = and_right f t (and_left (f && t) _ e) in
    let k : eqb n (day_number y 5 5 + 1) ≡ true = ap (λ (d : ℕ). eqb n d) (sym (days-on y 5 5 1)) ∙ and_right (f && t) _ e in
    simp (w, k, or-true)

golden : {ds : List ℕ} {test : ℕ → Bool} {a : ℕ} (y : ℕ) → Account ds test a → a ≤ day_number y 5 5 → Account (apply_golden_week_rules y (add_with_substitute ds (day_number y 5 5))) (λ n. test n || is_with_substitute (day_number y 5 5) n || eqb n (day_number y 5 4) || is_bridge_day y n) (day_number y 5 6)
unfolding apply_golden_week_rules is_bridge_day
golden {ds} {test} {a} y s h =
    let i = later (add s (day_number y 5 5) h) (day_number y 5 6) (omega (arith, days-on y 5 5 1)) in
    let b = day_number y 5 6 in
    record {
      same = λ n. simp (contains-if, contains-insert, i.same n) (without (test n || is_with_substitute (day_number y 5 5) n) _ _ _ _ _ (substituted y n (test n) (eqb (weekday_of (day_number y 5 3)) friday)));
      high = up-to-if _ _ _ b (up-to-if _ _ _ b (up-to-if _ _ _ b (up-to-if _ _ _ b (up-to-insert _ _ b i.high (day-order y 5 4 6 (lit≤ tt))) (day-order y 5 2 6 (lit≤ tt))) (omega arith)) (omega arith)) (omega arith);
    }

-- A day but 2 to 6 May is no bridge day.
pub not-bridge-day : (y n : ℕ) → is_between (day_number y 5 2) (day_number y 5 2 + 4) n ≡ false → false ≡ is_bridge_day y n
unfolding is_bridge_day
not-bridge-day y n e =
    let first = day_number y 5 2 in
    let not-2 : eqb n (day_number y 5 2) ≡ false = sym (not-between first (first + 4) first n (omega arith) (omega arith) e) in
    let not-6 : eqb n (day_number y 5 6) ≡ false = sym (not-between first (first + 4) (day_number y 5 6) n (omega (arith, days-on y 5 2 4)) (omega (arith, days-on y 5 2 4)) e) in
    simp (not-2, not-6, and-false)

-- Each date with a substitute is later than what was inserted before it.
before : (m d k e : ℕ) → (ltb m k || eqb m k && ltb d e) ≡ true → (m < k) ⊎ ((m ≡ k) × (d < e))
before m d k e h = by (ltb m k) refl h
  where
    by : (t : Bool) → ltb m k ≡ t → (t || eqb m k && ltb d e) ≡ true → (m < k) ⊎ ((m ≡ k) × (d < e))
    by true p q = inl (ltb-true m k p)
    by false p q = inr (eqb-true m k (and_left (eqb m k) _ q), ltb-true d e (and_right (eqb m k) _ q))

in_order-days : (y m d k e : ℕ) → (1 ≤ y) × (y ≤ last_year) → in_order m d k e ≡ true → day_number y m d + 1 ≤ day_number y k e
in_order-days y m d k e h o =
    let a = every_year_has m d in
    let b = every_year_has k e in
    let q = and_left (a && b) _ o in
    let s = (is-date y m d (every-year-date y m d (h.0, h.1, and_left a _ q))).exists in
    let t = (is-date y k e (every-year-date y k e (h.0, h.1, and_right a _ q))).exists in
    let l = number-before (date y m d) (date y k e) s t (inr (refl, before m d k e (and_right (a && b) _ o))) in
    omega (arith, l)

-- ---- the months

-- a date or its substitute is no day beyond them
not-with : (first last d n : ℕ) → first ≤ d → d + 1 ≤ last → is_between first last n ≡ false → false ≡ is_with_substitute d n
not-with first last d n l u e =
    let not-date : eqb n d ≡ false = sym (not-between first last d n l (omega arith) e) in
    let not-next : eqb n (d + 1) ≡ false = sym (not-between first last (d + 1) n (omega arith) u e) in
    simp (not-date, not-next, and-false)

module _ (day : CalendarDay) where
  abbrev y : ℕ
  y = day.date.year

  abbrev n : ℕ
  n = day.number

  abbrev month : ℕ
  month = day.date.month

  substituted-in : (m d : ℕ) → every_year_has m d ≡ true → every_year_has m (d + 1) ≡ true → Fits month (m ∷ []) (is_with_substitute (day_number y m d) n)
  substituted-in m d p q =
      near day m d 1 (is_with_substitute (day_number y m d) n) p q (not-with _ _ (day_number y m d) n (omega arith) (omega arith))

  equinox-in : (days : List ℕ) (m low high : ℕ) → every_between low high days 11 ≡ true → every_year_has m low ≡ true → every_year_has m (low + 2) ≡ true → low + 1 ≡ high → Fits month (m ∷ []) (is_day_with_substitute (equinox days y m) n)
  equinox-in days m low high k p q next = near day m low 2 (is_day_with_substitute (equinox days y m) n) p q (by (equinox days y m) refl)
    where
      by : (r : Option ℕ) → equinox days y m ≡ r → is_between (day_number y m low) (day_number y m low + 2) n ≡ false → false ≡ is_day_with_substitute r n
      by (Some t) f e = let r = equinox-near days low high m y t k f in not-with _ _ t n r.0 (omega (arith, r, days-on y m low 1, ap (day_number y m) next)) e
      by None f e = refl

  bridge_in : Fits month (5 ∷ []) (is_bridge_day y n)
  bridge_in = near day 5 2 4 (is_bridge_day y n) refl refl (not-bridge-day y n)

  -- the insertions of the Rust, one after the other, in years 1 to 9999
  pub japan-by-month : contains (get_japan_holidays y) n ≡ any_of month (japan_rules y n)
  unfolding get_japan_holidays
  japan-by-month =
      let years = year-range day in
      let a = add start (day_number y 1 1) (omega arith) in
      let a = add a (day_number y 1 2) (in_order-days y 1 1 1 2 years refl) in
      let a = add a (day_number y 1 3) (in_order-days y 1 2 1 3 years refl) in
      let a = put-day a _ (day_number y 1 14) (in_order-days y 1 3 1 14 years refl) (λ t e. nth-high y 1 monday 2 t e (lit≤ tt)) in
      let a = add a (day_number y 2 11) (omega (arith, in_order-days y 1 14 2 11 years refl)) in
      let a = add a (day_number y 2 23) (in_order-days y 2 11 2 23 years refl) in
      let a = add-day a _ (day_number y 3 22) (in_order-days y 2 23 3 22 years refl)
      (λ t e. omega (arith, equinox-near vernal_days 20 21 3 y t refl e, in_order-days y 2 23 3 20 years refl, in_order-days y 3 21 3 22 years refl)) in
      let a = add a (day_number y 4 29) (omega (arith, in_order-days y 3 22 4 29 years refl)) in
      let a = add a (day_number y 5 3) (in_order-days y 4 29 5 3 years refl) in
      let a = golden y a (in_order-days y 5 3 5 5 years refl) in
      let a = put-day a _ (day_number y 7 21) (omega (arith, in_order-days y 5 6 7 21 years refl)) (λ t e. nth-high y 7 monday 3 t e (lit≤ tt)) in
      let a = add a (day_number y 8 11) (omega (arith, in_order-days y 7 21 8 11 years refl)) in
      let a = put-day a _ (day_number y 9 21) (in_order-days y 8 11 9 21 years refl) (λ t e. nth-high y 9 monday 3 t e (lit≤ tt)) in
      let a = add-day a _ (day_number y 9 24) (omega (arith, in_order-days y 9 21 9 24 years refl))
      (λ t e. omega (arith, equinox-near autumnal_days 22 23 9 y t refl e, in_order-days y 9 21 9 22 years refl, in_order-days y 9 23 9 24 years refl)) in
      let a = put-day a _ (day_number y 10 14) (omega (arith, in_order-days y 9 24 10 14 years refl)) (λ t e. nth-high y 10 monday 2 t e (lit≤ tt)) in
      let a = add a (day_number y 11 3) (omega (arith, in_order-days y 10 14 11 3 years refl)) in
      let a = add a (day_number y 11 23) (in_order-days y 11 3 11 23 years refl) in
      let a = put a (day_number y 12 31) (day_number y 12 31) (in_order-days y 11 23 12 31 years refl) (omega arith) in
      a.same n
      ∙ by-month month false (japan_rules y n)
      (substituted-in 1 1 refl refl and substituted-in 1 2 refl refl and substituted-in 1 3 refl refl and nth day 1 monday (pos 2)
      and substituted-in 2 11 refl refl and substituted-in 2 23 refl refl
      and equinox-in vernal_days 3 20 21 refl refl refl refl
      and substituted-in 4 29 refl refl
      and substituted-in 5 3 refl refl and substituted-in 5 5 refl refl and fixed day 5 4 refl refl and bridge_in
      and nth day 7 monday (pos 3)
      and substituted-in 8 11 refl refl
      and nth day 9 monday (pos 3) and equinox-in autumnal_days 9 22 23 refl refl refl refl
      and nth day 10 monday (pos 2)
      and substituted-in 11 3 refl refl and substituted-in 11 23 refl refl
      and fixed day 12 31 refl refl and tt)
