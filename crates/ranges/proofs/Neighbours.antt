-- The laws of the next and the previous trading day, by one day of the search.
-- Assumes nothing.
use Rattle.std.proofs.Common.{Some, None}
use Prim.Native.Nat.{ℕ, suc, ◌+◌, ◌-◌, ◌≤◌, ◌<◌}
use mathlib.Core.Path.{◌≡◌, ap, ◌∙◌}
use mathlib.Core.Bool.{Bool, true, false}
use mathlib.Core.List.{List, ◌∷◌, reverse}
use native.Mathlib.Omega.{arith}
use Rattle.ranges.specs.Ranges.{days, found, find, next_trading_day, previous_trading_day}
use Rattle.ranges.proofs.Lists.{days-none, days-next, days-last}
use Rattle.ranges.proofs.Search.{find_none, find_first}

module _ (trades : ℕ → Bool) where
  -- The next one: day m + 1 is looked at, and then the days after it.
  module _ (last m : ℕ) where
    pub next-none : last ≤ m → next_trading_day trades last m ≡ None
    next-none h = ap (find trades) (days-none (suc m) last (omega arith)) ∙ find_none trades

    next-day : m < last → (t : Bool) → trades (m + 1) ≡ t → next_trading_day trades last m ≡ found t (m + 1) (next_trading_day trades last (m + 1))
    next-day h t e =
        let one : suc m ≡ m + 1 = omega arith in
        find_first trades (days (suc m) last) (m + 1) (days (suc (m + 1)) last) (days-next (suc m) last h ∙ ap (λ (i : ℕ). i ∷ days (suc i) last) one) t e

    pub next-found : m < last → trades (m + 1) ≡ true → next_trading_day trades last m ≡ Some (m + 1)
    next-found h e = next-day h true e

    pub next-passed : m < last → trades (m + 1) ≡ false → next_trading_day trades last m ≡ next_trading_day trades last (m + 1)
    next-passed h e = next-day h false e

  -- The previous one: day m - 1 is looked at, and then the days before it.
  module _ (first m : ℕ) (o : 1 ≤ first) where
    pub previous-none : m ≤ first → previous_trading_day trades first m ≡ None
    previous-none h = ap (λ (l : List ℕ). find trades (reverse l)) (days-none first (m - 1) (omega arith)) ∙ find_none trades

    previous-day : first < m → (t : Bool) → trades (m - 1) ≡ t → previous_trading_day trades first m ≡ found t (m - 1) (previous_trading_day trades first (m - 1))
    previous-day h t e =
        find_first trades (reverse (days first (m - 1))) (m - 1) (reverse (days first (m - 1 - 1))) (days-last first (m - 1) (omega arith) (omega arith)) t e

    pub previous-found : first < m → trades (m - 1) ≡ true → previous_trading_day trades first m ≡ Some (m - 1)
    previous-found h e = previous-day h true e

    pub previous-passed : first < m → trades (m - 1) ≡ false → previous_trading_day trades first m ≡ previous_trading_day trades first (m - 1)
    previous-passed h e = previous-day h false e
