-- Ranges that tile, and a list limited to a range.
-- Assumes nothing.
use Prim.Native.Nat.{ℕ, suc, ◌-◌, ◌≤◌}
use mathlib.Core.Path.{◌≡◌, refl, sym, ap, ◌∙◌}
use mathlib.Core.Bool.{Bool, true, false, ◌&&◌}
use mathlib.Core.List.{List, [], ◌∷◌, ◌++◌, append-nil}
use lib.Dec.{leb}
use native.Mathlib.Omega.{arith}
use borrow.Author.Tests.{le-leb, lt-leb}
use Rattle.ranges.specs.Ranges.{trading_days, joined}
use Rattle.ranges.specs.Agreement.{DateRange, limit_to, Tile, list_of}
use Rattle.ranges.proofs.Items.{every-trading-day, all_pass, none_pass}
use Rattle.ranges.proofs.Lists.{filter-append, trading-none, trading-split}

module _ (trades : ℕ → Bool) where
  limit-before : (a b low : ℕ) → 1 ≤ a → limit_to a b (trading_days trades low (a - 1)) ≡ []
  limit-before a b low o = none_pass _ _ (every-trading-day _ trades low (a - 1) (λ i x y. simp (lt-leb a i (omega arith))))

  limit-after : (a b high : ℕ) → limit_to a b (trading_days trades (suc b) high) ≡ []
  limit-after a b high = none_pass _ _ (every-trading-day _ trades (suc b) high (λ i x y. both (leb a i) (lt-leb i b (omega arith))))
    where
      both : (s : Bool) {t : Bool} → t ≡ false → (s && t) ≡ false
      both true e = e
      both false e = refl

  limit-inside : (a b : ℕ) → limit_to a b (trading_days trades a b) ≡ trading_days trades a b
  limit-inside a b = all_pass _ _ (every-trading-day _ trades a b (λ i x y. simp (le-leb a i x, le-leb i b y)))

  -- The trading days of a longer range, limited to a shorter one, are those of the shorter one.
  limited : (a b low high : ℕ) → 1 ≤ a → a ≤ b → low ≤ a → b ≤ high → limit_to a b (trading_days trades low high) ≡ trading_days trades a b
  limited a b low high o h p q =
      let e : suc (a - 1) ≡ a = omega arith in
      ap (limit_to a b) (trading-split trades low (a - 1) high (omega arith) (omega arith) ∙ ap (λ (x : ℕ). before ++ trading_days trades x high) e)
      ∙ ap (λ (l : List ℕ). limit_to a b (before ++ l)) (trading-split trades a b high (omega arith) q)
      ∙ filter-append (λ n. leb a n && leb n b) before (trading_days trades a b ++ after)
      ∙ ap (λ (l : List ℕ). l ++ limit_to a b (trading_days trades a b ++ after)) (limit-before a b low o)
      ∙ filter-append (λ n. leb a n && leb n b) (trading_days trades a b) after
      ∙ ap (λ (l : List ℕ). l ++ limit_to a b after) (limit-inside a b)
      ∙ ap (λ (l : List ℕ). trading_days trades a b ++ l) (limit-after a b high)
      ∙ append-nil (trading_days trades a b)
    where
      before : List ℕ
      before = trading_days trades low (a - 1)

      after : List ℕ
      after = trading_days trades (suc b) high

  tile-order : (a : ℕ) (rs : List DateRange) (b : ℕ) → Tile a rs b → a ≤ suc b
  tile-order a [] b t = omega arith
  tile-order a (r ∷ rs) b t = omega (arith, tile-order (suc r.last) rs b t.2)

  pub joined-days : (a : ℕ) (rs : List DateRange) (b : ℕ) → Tile a rs b → joined (list_of trades) rs ≡ trading_days trades a b
  joined-days a [] b t = sym (trading-none trades a b (omega arith))
  joined-days a (r ∷ rs) b t =
      ap (λ (x : ℕ). trading_days trades x r.last ++ joined (list_of trades) rs) t.0
      ∙ ap (λ (l : List ℕ). trading_days trades a r.last ++ l) (joined-days (suc r.last) rs b t.2)
      ∙ sym (trading-split trades a r.last b t.1 (omega (arith, tile-order (suc r.last) rs b t.2)))

  pub limited-months : (a b low high : ℕ) (rs : List DateRange) → 1 ≤ a → a ≤ b → Tile low rs high → low ≤ a → b ≤ high → limit_to a b (joined (list_of trades) rs) ≡ trading_days trades a b
  limited-months a b low high rs o h t p q = ap (limit_to a b) (joined-days low rs high t) ∙ limited a b low high o h p q
