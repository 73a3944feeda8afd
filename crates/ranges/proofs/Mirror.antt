-- The days up to day c in the mirror, day i at c - i: there the previous trading day is the next one.
-- Assumes nothing.
use Rattle.std.proofs.Common.{option_map}
use Prim.Native.Nat.{ℕ, suc, ◌+◌, ◌-◌, ◌≤◌, ◌<◌}
use mathlib.Core.Path.{◌≡◌, sym, ap, ◌∙◌}
use mathlib.Core.Bool.{Bool, true}
use mathlib.Core.Logic.{⊎_elim}
use native.Mathlib.Omega.{arith}
use Rattle.ranges.specs.Ranges.{days, find, next_trading_day, previous_trading_day}
use Rattle.ranges.specs.Steps.{NextStep, PreviousStep, ShortRuns}
use Rattle.ranges.proofs.Lists.{order, between-length, days-mirror}
use Rattle.ranges.proofs.Search.{find-map, is-first}
use Rattle.ranges.proofs.Neighbours.{next-none, previous-none}

-- As many days are between two days that are as far from each other.
as_many : (x y d e : ℕ) → suc x ≡ d → suc y ≡ e → d ≡ e → x ≡ y
as_many x y d e p q h = omega arith

module _ (trades : ℕ → Bool) (c : ℕ) where
  abbrev pub mirrored : ℕ → Bool
  mirrored i = trades (c - i)

  trades-mirrored : (i : ℕ) → i ≤ c → trades i ≡ true → mirrored (c - i) ≡ true
  trades-mirrored i h e = let same : c - (c - i) ≡ i = omega arith in ap trades same ∙ e

  module _ (first : ℕ) (o : 1 ≤ first) where
    pub previous-mirror : (n : ℕ) → n ≤ c → previous_trading_day trades first n ≡ option_map (λ i. c - i) (next_trading_day mirrored (c - first) (c - n))
    previous-mirror n h =
        ⊎_elim
        (λ (l : n ≤ first).
        previous-none trades first n o l ∙ sym (ap (option_map (λ i. c - i)) (next-none mirrored (c - first) (c - n) (omega arith))))
        (λ (l : first < n).
        ap (find trades) (days-mirror first (n - 1) c (omega arith) (omega arith) (omega arith))
        ∙ find-map trades (λ i. c - i) (days (c - (n - 1)) (c - first))
        ∙ ap (λ (x : ℕ). option_map (λ i. c - i) (find mirrored (days x (c - first)))) (omega arith))
        (order n first)

    -- A next call in the mirror is a previous call.
    pub mirror-call : (most n m : ℕ) → n ≤ c → NextStep mirrored most (c - first) (c - n) m → PreviousStep trades most first n (c - m)
    mirror-call most n m h s =
        let up = s.2.ordered in
        let to = (is-first mirrored (suc (c - n)) m (c - first) s.0).0 in
        let down : c - m < n = omega arith in (
          previous-mirror n h ∙ ap (option_map (λ i. c - i)) s.0,
          s.1,
          record {
            ordered = down;
            at_most = omega (arith, as_many _ _ _ _ (between-length (c - n) m up) (between-length (c - m) n down) (omega arith), s.2.at_most);
            non-trading = λ i x y. let same : i ≡ c - (c - i) = omega arith in ap trades same ∙ s.2.non-trading (c - i) (omega arith) (omega arith);
          },
        )

  pub mirror-runs : (most first last : ℕ) → last < c → ShortRuns trades most first last → ShortRuns mirrored most (c - last) (c - first)
  mirror-runs most first last h runs n l u =
      let r = runs (c - (n + most)) (omega arith) (omega arith) in
      let w : ℕ = r.0 in
      (c - w, omega (arith, r.2), omega (arith, r.1), trades-mirrored w (omega (arith, r.2)) r.3)
