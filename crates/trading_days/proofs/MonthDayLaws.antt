-- The laws of the days of a month, and of the list of them in an array.
-- Assumes nothing.
use Prim.Native.Nat.{ℕ, zero, suc, ◌+◌, ◌-◌, ◌≤◌, ◌<◌}
use mathlib.Core.Path.{◌≡◌, refl, sym, ap, ◌∙◌}
use mathlib.Core.Bool.{Bool, true, false}
use mathlib.Core.List.{List, ◌∷◌, ◌++◌, append-nil, map}
use lib.ListN.{length, take, set, get_or-eq_default}
use lib.Seq.{length-take-le, take-suc-set, append_snoc}
use native.Mathlib.Decide.{dec_le}
use native.Mathlib.Omega.{arith}
use Rattle.gregorian.specs.Calendar.{leap_day, month_lengths, month_length, is_date, day_number}
use Rattle.gregorian.proofs.Laws.{days-on, is-date, date-by, number-range}
use Rattle.gregorian.proofs.Formulas.{month-high}
use Rattle.markets.specs.Markets.{is_trading_day}
use Rattle.ranges.specs.Ranges.{days_from, days, filter, Every, trading_days}
use Rattle.ranges.proofs.Lists.{filter_map, trading-length, trading-kept, trading-passed, trading-none}
use Rattle.ranges.proofs.Items.{every-trading-day}
use Rattle.trading_days.specs.Month.{month_list}

-- which days of a month trade, by their numbers in it
abbrev pub in_month : ℕ → ℕ → ℕ → ℕ → Bool
in_month market y m day = is_trading_day market (day_number y m day)

-- day d of a month, from the day number of its first
pub day-of-month : (y m d first : ℕ) → is_date y m 1 ≡ true → first ≡ day_number y m 1 → 1 ≤ d → d ≤ month_length y m → (is_date y m d ≡ true) × (first - 1 + d ≡ day_number y m d)
day-of-month y m d first h f l u =
    let g = is-date y m 1 h in
    let x = g.exists in
    let back : 1 + (d - 1) ≡ d = omega arith in
    (date-by y m d (x.y-low, g.y-high) (x.m-low, x.m-high) (l, u), omega (arith, f, number-range y m 1 h, days-on y m 1 (d - 1), ap (day_number y m) back))

-- The first k days of the array, and then those from a to b that pass: day a is looked at; and none is left.
module _ (p : ℕ → Bool) (l : List ℕ) (k a b : ℕ) where
  pub day-kept : k < length l → a ≤ b → p a ≡ true → take k l ++ trading_days p a b ≡ take (k + 1) (set l k a) ++ trading_days p (a + 1) b
  day-kept h o e =
      let one : suc k ≡ k + 1 = omega arith in
      let rest = trading_days p (a + 1) b in
      ap (λ (r : List ℕ). take k l ++ r) (trading-kept p a b o e)
      ∙ sym (append_snoc (take k l) a rest)
      ∙ ap (λ (r : List ℕ). r ++ rest) (sym (take-suc-set l k a h))
      ∙ ap (λ (i : ℕ). take i (set l k a) ++ rest) one

  pub day-passed : a ≤ b → p a ≡ false → take k l ++ trading_days p a b ≡ take k l ++ trading_days p (a + 1) b
  day-passed o e = ap (λ (r : List ℕ). take k l ++ r) (trading-passed p a b o e)

  pub days-done : b < a → take k l ++ trading_days p a b ≡ take k l
  days-done h = ap (λ (r : List ℕ). take k l ++ r) (trading-none p a b h) ∙ append-nil (take k l)

-- The days of a month follow each other, and so the list is that of the trading days from its first day to its last.
month-days : (y m k d : ℕ) → map (day_number y m) (days_from d k) ≡ days_from (day_number y m d) k
unfolding days_from
month-days y m zero d = refl
month-days y m (suc k) d =
    let next : day_number y m (suc d) ≡ suc (day_number y m d) = ap (day_number y m) (omega arith) ∙ days-on y m d 1 ∙ omega arith in
    ap (λ (l : List ℕ). day_number y m d ∷ l) (month-days y m k (suc d) ∙ ap (λ (n : ℕ). days_from n k) next)

as_many : (y m n : ℕ) → suc n - 1 ≡ suc (day_number y m n) - day_number y m 1
unfolding day_number
as_many y m n = omega arith

pub month-list : (market y m : ℕ) → map (day_number y m) (month_list market y m) ≡ trading_days (is_trading_day market) (day_number y m 1) (day_number y m (month_length y m))
unfolding month_list
month-list market y m =
    let n = month_length y m in
    sym (filter_map (is_trading_day market) (day_number y m) (days 1 n))
    ∙ ap (filter (is_trading_day market)) (month-days y m (suc n - 1) 1)
    ∙ ap (λ (k : ℕ). filter (is_trading_day market) (days_from (day_number y m 1) k)) (as_many y m n)

-- Each day of the list is one of the month, and so there are at most 31.
pub list-in-month : (market y m : ℕ) → Every (λ d. d ≤ month_length y m) (month_list market y m)
unfolding month_list
list-in-month market y m = every-trading-day (λ d. d ≤ month_length y m) _ 1 (month_length y m) (λ d l h. h)

-- A number that is no month has no days.
pub length_high : (y m : ℕ) → month_length y m ≤ 31
unfolding month_length
length_high y m =
    elim (dec_le m 12) [
      | yes h ↦ month-high y m h
      | no h ↦
          let past : 13 ≤ m = omega arith in
          omega (arith, get_or-eq_default (month_lengths (leap_day y)) 0 past)
    ]

pub list_length : (market y m : ℕ) → length (month_list market y m) ≤ 31
unfolding month_list
list_length market y m = omega (arith, trading-length (λ day. is_trading_day market (day_number y m day)) 1 (month_length y m), length_high y m)

-- The array that `month_days` fills: its part `&days[0..count]` is the list.
module _ (market y m count : ℕ) (array : List ℕ) (size : length array ≡ 31) (r : (take count array ≡ month_list market y m) × (count ≤ 31)) where
  pub in_array : count ≤ length array
  in_array = omega (arith, size, r.1)

  pub listed : take (count - 0) array ≡ month_list market y m
  listed = let from-0 : count - 0 ≡ count = omega arith in ap (λ (k : ℕ). take k array) from-0 ∙ r.0

  pub count-is : count ≡ length (month_list market y m)
  count-is = sym (length-take-le count array in_array) ∙ ap length r.0
