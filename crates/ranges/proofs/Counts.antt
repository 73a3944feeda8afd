-- The count of a range, and of its parts.
-- Assumes nothing.
use Prim.Native.Nat.{ℕ, zero, suc, ◌+◌, ◌-◌, ◌≤◌, ◌<◌}
use mathlib.Core.Path.{◌≡◌, refl, sym, ap, ◌∙◌}
use mathlib.Core.Bool.{Bool, true, false}
use mathlib.Core.List.{List, [], ◌∷◌}
use lib.ListN.{length, length-append}
use native.Mathlib.Nat.{zero-add}
use native.Mathlib.Omega.{arith}
use Rattle.std.specs.Int.{from_bool}
use Rattle.ranges.specs.Ranges.{days_from, keep, filter, trading_days, one_more, count_from, count_trading_days, sum_of}
use Rattle.ranges.specs.Agreement.{parts, Splits, count_of}
use Rattle.ranges.proofs.Lists.{filter-first, trading-split, all-fail, first_passes}
use Rattle.ranges.proofs.Search.{is-first, finds-one}

pub flag-high : (t : Bool) → from_bool t ≤ 1
flag-high true = omega arith
flag-high false = omega arith

pub splits-order : (a : ℕ) (splits : List ℕ) (b : ℕ) → Splits a splits b → a ≤ suc b
splits-order a [] b h = h
splits-order a (c ∷ splits) b h = omega (arith, splits-order c splits b h.1)

module _ (trades : ℕ → Bool) where
  -- The count of a list, its first day asked for by itself.
  pub count-first : (n : ℕ) (l rest : List ℕ) → l ≡ n ∷ rest → length (filter trades l) ≡ from_bool (trades n) + length (filter trades rest)
  count-first n l rest e = ap length (filter-first trades n l rest e (trades n) refl) ∙ kept (trades n) (filter trades rest)
    where
      kept : (t : Bool) (l : List ℕ) → length (keep t n l) ≡ from_bool t + length l
      kept true l = omega arith
      kept false l = omega arith

  counted-from : (k count a : ℕ) → count_from trades count a k ≡ count + length (filter trades (days_from a k))
  unfolding days_from filter count_from
  counted-from zero count a = omega arith
  counted-from (suc k) count a =
      counted-from k (one_more (trades a) count) (suc a) ∙ one_more-length (trades a) (filter trades (days_from (suc a) k))
    where
      one_more-length : (t : Bool) (l : List ℕ) → one_more t count + length l ≡ count + length (keep t a l)
      one_more-length true l = omega arith
      one_more-length false l = refl

  pub counted : (a b : ℕ) → count_trading_days trades a b ≡ length (trading_days trades a b)
  counted a b = counted-from (suc b - a) 0 a ∙ zero-add (length (trading_days trades a b))

  -- No day is counted exactly if none trades.
  pub none-counted : (a b : ℕ) → ((n : ℕ) → a ≤ n → n ≤ b → trades n ≡ false) → count_trading_days trades a b ≡ 0
  none-counted a b h = counted a b ∙ ap length (all-fail trades a b h)

  pub one-counted : (a b n : ℕ) → a ≤ n → n ≤ b → trades n ≡ true → 1 ≤ count_trading_days trades a b
  one-counted a b n l h t =
      let r = finds-one trades a n b l h t in
      let f = (is-first trades a r.0 b r.2).1 in
      omega (arith, counted a b, ap length (first_passes trades a r.0 b f.from (omega (arith, r.1)) f.trading f.non-trading))

  count-split : (a c b : ℕ) → a ≤ suc c → c ≤ b → count_trading_days trades a c + count_trading_days trades (suc c) b ≡ count_trading_days trades a b
  count-split a c b h k =
      rw (counted a c, counted (suc c) b, counted a b)
      (sym (ap length (trading-split trades a c b h k) ∙ length-append (trading_days trades a c) (trading_days trades (suc c) b)))

  -- an empty part
  pub count_none : (a b : ℕ) → b < a → count_trading_days trades a b ≡ 0
  unfolding count_from
  count_none a b h = let e : suc b - a ≡ 0 = omega arith in ap (count_from trades 0 a) e

  pub parts-add-up : (a : ℕ) (splits : List ℕ) (b : ℕ) → 1 ≤ a → Splits a splits b → sum_of (count_of trades) (parts a splits b) ≡ count_trading_days trades a b
  parts-add-up a [] b o h = omega arith
  parts-add-up a (c ∷ splits) b o h =
      let e : c ≡ suc (c - 1) = omega arith in
      ap (λ (x : ℕ). count_trading_days trades a (c - 1) + x) (parts-add-up c splits b (omega arith) h.1)
      ∙ ap (λ (x : ℕ). count_trading_days trades a (c - 1) + count_trading_days trades x b) e
      ∙ count-split a (c - 1) b (omega arith) (omega (arith, splits-order c splits b h.1))
