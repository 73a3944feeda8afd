-- Where runs of non-trading days are short, every way to the trading days of a range gives the same.
-- Assumes nothing.
use Rattle.std.proofs.Common.{None}
use Prim.Native.Nat.{ℕ, suc, ◌+◌, ◌-◌, ◌≤◌}
use mathlib.Core.Path.{◌≡◌, sym, ◌∙◌}
use mathlib.Core.Bool.{Bool}
use mathlib.Core.List.{reverse}
use lib.Dec.{leb}
use native.Mathlib.Omega.{arith}
use borrow.Author.Tests.{leb-true}
use Rattle.ranges.specs.Ranges.{trading_days, next_trading_day, previous_trading_day}
use Rattle.ranges.specs.Steps.{NextStep, PreviousStep, ShortRuns, ShortSteps}
use Rattle.ranges.specs.Agreement.{AgreementTo, AgreementToEnds, Agreement, Agree, AgreeInside}
use Rattle.ranges.specs.Traversals.{TraversalTo, Traversal}
use Rattle.ranges.proofs.Search.{no-day}
use Rattle.ranges.proofs.StepLaws.{steps-are-short, next-further, previous-further}
use Rattle.ranges.proofs.Traversals.{traversal-of, every-call-answers, forward, backward}
use Rattle.ranges.proofs.Counts.{counted, count_none, parts-add-up}
use Rattle.ranges.proofs.Months.{limited-months}

-- The traversals are what runs have to do with; the rest agrees over any rule.
agreement : (trades : ℕ → Bool) (most first last a b : ℕ) (NextEnds PreviousEnds : ℕ → Type 0) → 1 ≤ a → a ≤ b
    → TraversalTo (NextStep trades most last) (λ m. leb m b) NextEnds (a - 1) (trading_days trades a b)
    → TraversalTo (PreviousStep trades most first) (λ m. leb a m) PreviousEnds (suc b) (reverse (trading_days trades a b))
    → AgreementTo trades most first last a b NextEnds PreviousEnds
agreement trades most first last a b NextEnds PreviousEnds o h f g =
    record {
      forward = f;
      forward-of = traversal-of (NextStep trades most last) (λ m. leb m b) NextEnds (a - 1) (trading_days trades a b) f;
      backward = g;
      backward-of = traversal-of (PreviousStep trades most first) (λ m. leb a m) PreviousEnds (suc b) (reverse (trading_days trades a b)) g;
      count = counted trades a b;
      parts-add-up = λ splits s. parts-add-up trades a splits b o s;
      empty-part = λ c l. count_none trades c (c - 1) (omega arith);
      months = λ from to rs t f l. limited-months trades a b from to rs o h t f l;
    }

pub agree : Agree
agree trades most first last a b o runs l h z =
    agreement trades most first last a b _ _ (omega arith) h (forward trades most first last runs b z a (omega arith) l h)
    (backward trades most first last o runs a b l h z)

-- Where runs are short on further days than the range, every call answers; and one that may look at more days answers the same.
module _ (trades : ℕ → Bool) (most first last low high a b : ℕ) (o : 1 ≤ first) (runs : ShortRuns trades most low high) (f : first ≤ low) (z : high ≤ last)
    (p : low + suc most ≤ a) (h : a ≤ b) (q : b + suc most ≤ high) where
  on-all : AgreementToEnds trades most low high a b
  on-all = agree trades most low high a b (omega arith) runs (omega arith) h (omega arith)

  steps : ShortSteps trades most low high
  steps = steps-are-short trades most low high (omega arith) runs

  answers-forward : Traversal (NextStep trades most last) (λ m. leb m b) (a - 1) (trading_days trades a b)
  answers-forward =
      every-call-answers (NextStep trades most high) (NextStep trades most last) (λ n. next_trading_day trades high n ≡ None) (λ m. leb m b) (λ n. (low ≤ n) × (n ≤ b))
      (λ n m k c. let up = c.2.ordered in (next-further trades most high last n m z c, λ e. (omega (arith, k), leb-true m b e)))
      (λ n k e. let r = steps.next-answers n (omega (arith, k)) (omega (arith, k)) in no-day r.0 (sym e ∙ r.1.0))
      (a - 1) (trading_days trades a b) (omega arith, omega arith) on-all.forward

  answers-backward : Traversal (PreviousStep trades most first) (λ m. leb a m) (suc b) (reverse (trading_days trades a b))
  answers-backward =
      every-call-answers (PreviousStep trades most low) (PreviousStep trades most first) (λ n. previous_trading_day trades low n ≡ None) (λ m. leb a m) (λ n. (a ≤ n) × (n ≤ high))
      (λ n m k c. let down = c.2.ordered in (previous-further trades most first low n m o f c, λ e. (leb-true a m e, omega (arith, k))))
      (λ n k e. let r = steps.previous-answers n (omega (arith, k)) (omega (arith, k)) in no-day r.0 (sym e ∙ r.1.0))
      (suc b) (reverse (trading_days trades a b)) (omega arith, omega arith) on-all.backward

  inside : Agreement trades most first last a b
  inside = agreement trades most first last a b _ _ (omega arith) h answers-forward answers-backward

pub agree-inside : AgreeInside
agree-inside trades most first last low high a b o runs f z p h q = inside trades most first last low high a b o runs f z p h q
