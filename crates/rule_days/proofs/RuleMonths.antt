-- A holiday of another month is not this day: so a day is tested by the rules of its month alone.
-- Assumes nothing.
use Rattle.std.proofs.Common.{Option, Some, None, option_map}
use Prim.Native.Nat.{ℕ, ◌+◌, ◌-◌, ◌≤◌}
use mathlib.Core.Path.{◌≡◌, refl, ap, sym, ◌∙◌}
use mathlib.Core.Bool.{Bool, true, false, cond, not, ◌&&◌, ◌||◌}
use mathlib.Core.List.{List, [], ◌∷◌}
use lib.Dec.{leb, eqb}
use lib.IntN.{ℤ}
use native.Mathlib.Omega.{arith}
use native.Mathlib.Decide.{dec_le, dec_lt}
use borrow.Author.Tests.{leb-true, eqb-true, eq-eqb, ne_eqb, le-leb, lt-leb, not-true}
use Rattle.gregorian.specs.Calendar.{number, month_length, total, day_number, last_year, is_date, date}
use Rattle.gregorian.specs.declared.Date.{Date}
use Rattle.gregorian.specs.declared.days.CalendarDay.{CalendarDay}
use Rattle.gregorian.specs.Inner.{Exists}
use Rattle.gregorian.proofs.Tests.{and_left, and_right, every, every-at}
use Rattle.gregorian.proofs.Laws.{days-on, is-date, by_number}
use Rattle.gregorian.proofs.DaySteps.{is-date-of, number_is}
use Rattle.utils.specs.Weekday.{nth_weekday_of_month}
use Rattle.utils.proofs.WeekdayLaws.{nth-weekday}
use Rattle.utils.specs.Easter.{easter, calculate_easter, calculate_good_friday, calculate_easter_monday}
use Rattle.utils.proofs.EasterLaws.{easter-range, easter-found}
use Rattle.rule_days.specs.Days.{is_day, adjust_for_weekend}
use Rattle.rule_days.specs.Inner.{Rule, is_one_of, any_from, any_of, is_between, is_around_easter, every_year_has}
use Rattle.rule_days.proofs.DayLaws.{or-false, not-between, not-observed, every-year-date}

-- ---- all rules of a year, and those of a month

-- whether one of all the rules names the day, or the test before them holds
abbrev pub any_of_all : Bool → List Rule → Bool
any_of_all before [] = before
any_of_all before (r ∷ rs) = any_of_all (before || r.test) rs

-- one fact, and the facts of the rules after it
infixr 5 ◌and◌
pub ◌and◌ : {A B : Type 0} → A → B → A × B
a and b = (a, b)

module _ (month : ℕ) where
  -- a rule that names the day can fall in its month
  abbrev pub Fits : List ℕ → Bool → Type 0
  Fits months test = test ≡ true → is_one_of months month ≡ true

  abbrev pub AllFit : List Rule → Type 0
  AllFit [] = Unit {0}
  AllFit (r ∷ rs) = Fits r.months r.test × AllFit rs

  -- so one that cannot fall in it need not be asked
  asked : (before test member : Bool) → (test ≡ true → member ≡ true) → (before || test) ≡ cond member (before || test) before
  asked before test true h = refl
  asked before true false h = cc (h refl)
  asked before false false h = or-false before

  pub by-month : (before : Bool) (rules : List Rule) → AllFit rules → any_of_all before rules ≡ any_from month before rules
  by-month before [] h = refl
  by-month before (r ∷ rs) h =
      by-month (before || r.test) rs h.1
      ∙ ap (λ (t : Bool). any_from month t rs) (asked before r.test (is_one_of r.months month) h.0)

-- ---- the month of a rule

one-month : (month m : ℕ) → month ≡ m → is_one_of (m ∷ []) month ≡ true
one-month month m e = simp (eq-eqb month m e)

-- a day that is named is one of the days beyond which none is
in-range : (first last n : ℕ) (t : Bool) → (is_between first last n ≡ false → false ≡ t) → t ≡ true → (first ≤ n) × (n ≤ last)
in-range first last n t away e = by (is_between first last n) refl
  where
    by : (b : Bool) → is_between first last n ≡ b → (first ≤ n) × (n ≤ last)
    by true q = (leb-true first n (and_left (leb first n) _ q), leb-true n last (and_right (leb first n) _ q))
    by false q = absurd (let z = away q ∙ e in let k : ◌≡◌ {A = ℕ} 0 1 = cc in omega arith)

-- the day of an answer
the-day : (r : Option ℕ) (n : ℕ) → is_day r n ≡ true → r ≡ Some n
the-day (Some d) n e = ap Some (sym (eqb-true n d e))
the-day None n e = cc

-- What is known of a day of a month, from day a to day b.
pub record DayWithin (t : Date) (m a b : ℕ) : Type 0 where
  pub month : t.month ≡ m
  pub low : a ≤ t.day
  pub high : t.day ≤ b

-- The days of a month and their numbers have one order.
one-order : (a b c d : ℕ) → (a ≤ b → c ≤ d) → (c ≤ d → a ≤ b) → leb a b ≡ leb c d
one-order a b c d f g = elim (dec_le a b) [
  | yes h ↦ le-leb a b h ∙ sym (le-leb c d (f h))
  | no h ↦ not-le a b h ∙ sym (not-le c d (λ k. h (g k)))
]
  where
    not-le : (i j : ℕ) → (i ≤ j → ⊥) → leb i j ≡ false
    not-le i j h = lt-leb i j (omega arith)

pub same-within : (t : Date) (m a k : ℕ) → t.month ≡ m
    → (let from = day_number t.year m a in is_between a (a + k) t.day ≡ is_between from (from + k) (number t))
unfolding day_number
same-within t m a k e =
    let d = t.day in
    let from = day_number t.year m a in
    let n : number t ≡ day_number t.year m d = ap (λ (i : ℕ). day_number t.year i d) e in
    let low = one-order a d from (number t) (λ l. omega (arith, n, l)) (λ l. omega (arith, n, l)) in
    let high = one-order d (a + k) (number t) (from + k) (λ l. omega (arith, n, l)) (λ l. omega (arith, n, l)) in
    λ j. low j && high j

-- of a day, by its number
pub is-away : (day : CalendarDay) (from to : ℕ) (within : Bool) → within ≡ is_between from to (number day.date) → within ≡ false
    → is_between from to day.number ≡ false
is-away day from to within e f = ap (is_between from to) (sym (number_is day)) ∙ sym e ∙ f

module _ (day : CalendarDay) where
  abbrev n : ℕ
  n = day.number

  abbrev y : ℕ
  y = day.date.year

  abbrev month : ℕ
  month = day.date.month

  pub year-range : (1 ≤ y) × (y ≤ last_year)
  year-range = let d = is-date _ _ _ (is-date-of day) in (d.exists.y-low, d.y-high)

  pub month-range : (1 ≤ month) × (month ≤ 12)
  month-range = let d = is-date _ _ _ (is-date-of day) in (d.exists.m-low, d.exists.m-high)

  ends : (m a b : ℕ) → day_number y m b + a ≡ day_number y m a + b
  unfolding day_number
  ends m a b = omega arith

  within : (m a b : ℕ) → is_date y m a ≡ true → is_date y m b ≡ true → day_number y m a ≤ n → n ≤ day_number y m b → DayWithin day.date m a b
  within m a b p q l u =
      let x = (is-date y m a p).exists in
      let z = (is-date y m b q).exists in
      let k = n - day_number y m a in
      let at_most : a + k ≤ b = omega (arith, ends m a b, l, u) in
      let g : Exists y m (a + k) = record { y-low = x.y-low; m-low = x.m-low; m-high = x.m-high; d-low = omega (arith, x.d-low); d-high = omega (arith, z.d-high, at_most) } in
      let e : date y m (a + k) ≡ day.date = by_number y m (a + k) n g (days-on y m a k ∙ omega (arith, l)) ∙ sym day.same in
      record { month = sym (ap (λ (t : Date). t.month) e); low = omega (arith, ap (λ (t : Date). t.day) e); high = omega (arith, at_most, ap (λ (t : Date). t.day) e) }

  -- the same from days that every year has
  from-to : (m a b : ℕ) → every_year_has m a ≡ true → every_year_has m b ≡ true → day_number y m a ≤ n → n ≤ day_number y m b → DayWithin day.date m a b
  from-to m a b p q = within m a b (every-year-date y m a (year-range.0, year-range.1, p)) (every-year-date y m b (year-range.0, year-range.1, q))

  -- a rule that names none but day a of month m and the k days after it
  pub near : (m a k : ℕ) (t : Bool) → every_year_has m a ≡ true → every_year_has m (a + k) ≡ true → (is_between (day_number y m a) (day_number y m a + k) n ≡ false → false ≡ t) → Fits month (m ∷ []) t
  near m a k t p q away e =
      let r = in-range (day_number y m a) (day_number y m a + k) n t away e in
      one-month month m (from-to m a (a + k) p q r.0 (omega (arith, r, days-on y m a k))).month

  -- day d of month m
  pub fixed : (m d : ℕ) → every_year_has m d ≡ true → every_year_has m (d + 0) ≡ true → Fits month (m ∷ []) (eqb n (day_number y m d))
  fixed m d p q =
      near m d 0 (eqb n (day_number y m d)) p q (not-between _ _ (day_number y m d) n (omega arith) (omega arith))

  -- on Monday if on a weekend
  pub observed : (m d : ℕ) → every_year_has m d ≡ true → every_year_has m (d + 2) ≡ true → Fits month (m ∷ []) (eqb n (adjust_for_weekend (day_number y m d)))
  observed m d p q = near m d 2 (eqb n (adjust_for_weekend (day_number y m d))) p q (not-observed (day_number y m d) n)

  -- the nth weekday of month m
  pub nth : (m w : ℕ) (k : ℤ) → Fits month (m ∷ []) (is_day (nth_weekday_of_month y m w k) n)
  nth m w k e = one-month month m (ap (λ (t : Date). t.month) day.same ∙ (nth-weekday y m w k n (the-day _ n e)).month)

  -- ---- Easter

  april : day_number y 4 1 ≡ day_number y 3 31 + 1
  unfolding day_number total month_length
  april = omega arith

  around : day_number y 3 20 ≤ n → n ≤ day_number y 4 26 → is_around_easter day.date ≡ true
  around l u = elim (dec_lt n (day_number y 4 1)) [
    | yes a ↦ let t = from-to 3 20 31 refl refl l (omega (arith, april)) in simp (t.month, le-leb 20 day.date.day t.low)
    | no a ↦ let t = from-to 4 1 26 refl refl (omega arith) u in simp (t.month, le-leb day.date.day 26 t.high)
  ]

  -- Good Friday and Easter Monday are around Easter,
  beside-easter : (f : ℕ → ℕ) → (easter y ≤ f (easter y) + 2) × (f (easter y) ≤ easter y + 1) → is_day (option_map f (calculate_easter y)) n ≡ true → is_around_easter day.date ≡ true
  beside-easter f k e =
      let found = ap (λ (o : Option ℕ). is_day (option_map f o) n) (easter-found y year-range.0 year-range.1) in
      let q = eqb-true n (f (easter y)) (sym found ∙ e) in
      around (omega (arith, q, k, easter-range y, days-on y 3 20 2)) (omega (arith, q, k, easter-range y, days-on y 4 25 1))

  pub good-friday-around : is_day (calculate_good_friday y) n ≡ true → is_around_easter day.date ≡ true
  unfolding calculate_good_friday
  good-friday-around = beside-easter (λ i. i - 2) (omega arith)

  pub easter-monday-around : is_day (calculate_easter_monday y) n ≡ true → is_around_easter day.date ≡ true
  unfolding calculate_easter_monday
  easter-monday-around = beside-easter (λ i. i + 1) (omega arith)

  -- and so in March or April
  in-march-or-april : is_around_easter day.date ≡ true → is_one_of (3 ∷ 4 ∷ []) month ≡ true
  in-march-or-april e = by (eqb month 3) (eqb month 4) _ _ e
    where
      by : (a b p q : Bool) → (a && p || b && q) ≡ true → (a || (b || false)) ≡ true
      by true b p q e = refl
      by false true p q e = refl
      by false false p q e = e

  pub good-friday : Fits month (3 ∷ 4 ∷ []) (is_day (calculate_good_friday y) n)
  good-friday e = in-march-or-april (good-friday-around e)

  pub easter-monday : Fits month (3 ∷ 4 ∷ []) (is_day (calculate_easter_monday y) n)
  easter-monday e = in-march-or-april (easter-monday-around e)

  -- and none of them is another day.
  pub away-from-easter : (t : Bool) → (t ≡ true → is_around_easter day.date ≡ true) → is_around_easter day.date ≡ false → false ≡ t
  away-from-easter true k e = sym e ∙ k refl
  away-from-easter false k e = refl

-- ---- the months without a holiday

-- none of the rules can fall in the month
abbrev pub none_in : ℕ → List Rule → Bool
none_in month [] = true
none_in month (r ∷ rs) = not (is_one_of r.months month) && none_in month rs

none-asked : (month : ℕ) (before : Bool) (rules : List Rule) → none_in month rules ≡ true → any_from month before rules ≡ before
none-asked month before [] e = refl
none-asked month before (r ∷ rs) e =
    let out = not-true (is_one_of r.months month) (and_left (not (is_one_of r.months month)) _ e) in
    ap (λ (b : Bool). any_from month (cond b (before || r.test) before) rs) out ∙ none-asked month before rs (and_right (not (is_one_of r.months month)) _ e)

-- what the last arm of a `match` knows: the month is none of the keys, the last one first
abbrev pub Refuted : List ℕ → ℕ → Type 0
Refuted [] month = Unit {0}
Refuted (k ∷ ks) month = Refuted ks month × (month ≡ k → ⊥)

not_key : (keys : List ℕ) (month : ℕ) → Refuted keys month → is_one_of keys month ≡ false
not_key [] month r = refl
not_key (k ∷ ks) month r = simp (ne_eqb month k r.1, not_key ks month r.0)

-- every month has a key, or no rule that can fall in it
abbrev pub keys_cover : List ℕ → List Rule → ℕ → Bool
keys_cover keys rules month = is_one_of keys month || none_in month rules

pub no-holiday : (keys : List ℕ) (rules : List Rule) (month : ℕ) → every (keys_cover keys rules) 12 ≡ true → (1 ≤ month) × (month ≤ 12) → Refuted keys month → false ≡ any_of month rules
no-holiday keys rules month e h r =
    let covered = every-at (keys_cover keys rules) 12 e month h.0 h.1 in
    sym (none-asked month false rules (ap (λ (b : Bool). b || none_in month rules) (sym (not_key keys month r)) ∙ covered))
