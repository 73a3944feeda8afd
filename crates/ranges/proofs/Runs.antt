-- A test along a list of days, which is computed, shows that runs of non-trading days are short.
-- Assumes nothing.
use Prim.Native.Nat.{ℕ, zero, suc, ◌+◌, ◌≤◌, ◌<◌}
use mathlib.Core.Path.{◌≡◌, refl}
use mathlib.Core.Bool.{Bool, true, false, ◌&&◌}
use mathlib.Core.Logic.{◌⊎◌, inl, inr, ⊎_elim}
use mathlib.Core.List.{List, [], ◌∷◌, map}
use lib.Dec.{ltb}
use native.Mathlib.Omega.{arith}
use borrow.Author.Tests.{ltb-true}
use Rattle.gregorian.proofs.Tests.{and_left, and_right}
use Rattle.ranges.specs.Ranges.{days_from}
use Rattle.ranges.specs.Steps.{ShortRuns}
use Rattle.ranges.proofs.Lists.{order}

-- Day after day, whether it trades: no run of those that do not is longer than `most`, with the c days before counted in.
unfoldable pub runs_up_to : ℕ → ℕ → List Bool → Bool
runs_up_to most c [] = true
runs_up_to most c (true ∷ l) = runs_up_to most 0 l
runs_up_to most c (false ∷ l) = let rest = runs_up_to most (suc c) l in ltb c most && rest

module _ (trades : ℕ → Bool) (most : ℕ) where
  -- the day after c non-trading days
  past-day : (c : ℕ) (t : Bool) (l : List Bool) → runs_up_to most c (t ∷ l) ≡ true → ((t ≡ true) × (runs_up_to most 0 l ≡ true)) ⊎ ((t ≡ false) × (c < most) × (runs_up_to most (suc c) l ≡ true))
  unfolding runs_up_to
  past-day c true l e = inl (refl, e)
  past-day c false l e = inr (refl, ltb-true c most (and_left (ltb c most) _ e), and_right (ltb c most) _ e)

  -- `most` and one days from x on have a day that trades, where the test from a on counts c days in.
  window : (k c a x : ℕ) → runs_up_to most c (map trades (days_from a k)) ≡ true → c ≤ most → a ≤ x + c → x + most < a + k → (m : ℕ) × (x ≤ m) × (m ≤ x + most) × (trades m ≡ true)
  unfolding days_from
  window zero c a x e h p q = absurd (omega arith)
  window (suc k) c a x e h p q =
      ⊎_elim
      (λ (w : (trades a ≡ true) × (runs_up_to most 0 (map trades (days_from (suc a) k)) ≡ true)).
      ⊎_elim (λ (l : x ≤ a). (a, l, omega arith, w.0)) (λ (l : a < x). window k 0 (suc a) x w.1 (omega arith) (omega arith) (omega arith)) (order x a))
      (λ (w : (trades a ≡ false) × (c < most) × (runs_up_to most (suc c) (map trades (days_from (suc a) k)) ≡ true)).
      window k (suc c) (suc a) x w.2 (omega (arith, w.1)) (omega arith) (omega arith))
      (past-day c (trades a) (map trades (days_from (suc a) k)) e)

  pub short-runs : (a k high : ℕ) → runs_up_to most 0 (map trades (days_from a k)) ≡ true → high < a + k → ShortRuns trades most a high
  short-runs a k high e h n l u =
      let w = window k 0 a n e (omega arith) (omega arith) (omega arith) in
      (w.0, w.1, omega (arith, w.2), w.3)
