-- What the next and the previous call answer: the trading day on that side with none between. So each undoes the other, and where
-- runs are short, few days are passed. What previous answers is what next answers in the mirror.
-- Assumes nothing.
use Rattle.std.proofs.Common.{Option, Some, None, option_map}
use Prim.Native.Nat.{ℕ, suc, ◌-◌, ◌≤◌, ◌<◌}
use mathlib.Core.Path.{◌≡◌, refl, sym, ap, ◌∙◌}
use mathlib.Core.Bool.{Bool, true, false}
use mathlib.Core.Logic.{⊎_elim}
use lib.ListN.{length}
use native.Mathlib.Omega.{arith}
use Rattle.gregorian.specs.Calendar.{first_day, last_day}
use Rattle.utils.specs.Inner.{InYears}
use Rattle.ranges.specs.Ranges.{days_between, next_trading_day, previous_trading_day, SomeTradingDay}
use Rattle.ranges.specs.Steps.{NextStep, PreviousStep, ShortRuns, ShortSteps, StepsAreShort, StepsUndo}
use Rattle.ranges.specs.Traversals.{NonTradingBetween}
use Rattle.ranges.proofs.Lists.{test, order, clash, between-length}
use Rattle.ranges.proofs.Search.{no-day, same-day, finds, is-first, finds-one}
use Rattle.ranges.proofs.Mirror.{mirrored, previous-mirror}

-- ---- what a call answers

-- a day that was mapped
mapped : (f : ℕ → ℕ) (o : Option ℕ) (m : ℕ) → option_map f o ≡ Some m → (k : ℕ) × (o ≡ Some k) × (f k ≡ m)
mapped f (Some k) m e = (k, refl, same-day (f k) m e)
mapped f None m e = absurd (no-day m e)

module _ (trades : ℕ → Bool) where
  -- m trades, and no day strictly between `earlier` and `later`, one of which is m
  pub record Beside (m earlier later : ℕ) : Type 0 where
    pub trading : trades m ≡ true
    pub ordered : earlier < later
    pub non-trading : (i : ℕ) → earlier < i → i < later → trades i ≡ false

  module _ (last n m : ℕ) where
    pub next-is : next_trading_day trades last n ≡ Some m → (m ≤ last) × Beside m n m
    next-is e =
        let r = is-first trades (suc n) m last e in
        let f = r.1 in
        (r.0, record { trading = f.trading; ordered = f.from; non-trading = f.non-trading })

    pub next-by : m ≤ last → Beside m n m → next_trading_day trades last n ≡ Some m
    next-by h b = finds trades (suc n) m last h (record { from = b.ordered; trading = b.trading; non-trading = b.non-trading })

  module _ (first n m : ℕ) (o : 1 ≤ first) where
    -- in the mirror on day n
    here : previous_trading_day trades first n ≡ option_map (λ i. n - i) (next_trading_day (mirrored trades n) (n - first) (n - n))
    here = previous-mirror trades n first o n (omega arith)

    pub previous-is : previous_trading_day trades first n ≡ Some m → (first ≤ m) × Beside m m n
    previous-is e =
        let r = mapped (λ i. n - i) (next_trading_day (mirrored trades n) (n - first) (n - n)) m (sym here ∙ e) in
        let k : ℕ = r.0 in
        let back : n - k ≡ m = r.2 in
        let s = is-first (mirrored trades n) (suc (n - n)) k (n - first) r.1 in
        let f = s.1 in
        let from = f.from in (
          omega (arith, s.0),
          record {
            trading = ap trades (sym back) ∙ f.trading;
            ordered = omega arith;
            non-trading = λ i x y. let same : i ≡ n - (n - i) = omega arith in ap trades same ∙ f.non-trading (n - i) (omega arith) (omega arith);
          },
        )

    pub previous-by : first ≤ m → Beside m m n → previous_trading_day trades first n ≡ Some m
    previous-by h b =
        let back : n - (n - m) ≡ m = omega (arith, b.ordered) in
        here
        ∙ ap (option_map (λ i. n - i))
        (finds (mirrored trades n) (suc (n - n)) (n - m) (n - first) (omega arith)
        (record {
          from = omega (arith, b.ordered);
          trading = ap trades back ∙ b.trading;
          non-trading = λ i x y. b.non-trading (n - i) (omega arith) (omega arith);
        }))
        ∙ ap Some back

  -- Where a day trades that the call looks at, it answers.
  pub previous-one : (first n w : ℕ) → 1 ≤ first → first ≤ w → w < n → trades w ≡ true → (m : ℕ) × (previous_trading_day trades first n ≡ Some m)
  previous-one first n w o l h t =
      let same : n - (n - w) ≡ w = omega arith in
      let r = finds-one (mirrored trades n) (suc (n - n)) (n - w) (n - first) (omega arith) (omega arith) (ap trades same ∙ t) in
      from-mirror r.0 r.2
    where
      from-mirror : (k : ℕ) → next_trading_day (mirrored trades n) (n - first) (n - n) ≡ Some k → (m : ℕ) × (previous_trading_day trades first n ≡ Some m)
      from-mirror k e = (n - k, previous-mirror trades n first o n (omega arith) ∙ ap (option_map (λ i. n - i)) e)

  -- The last trading day of a range is one of its trading days, and there is none only where no day trades.
  pub last_some : (a b : ℕ) → 1 ≤ a → SomeTradingDay trades a b (previous_trading_day trades a (suc b))
  last_some a b o = by (previous_trading_day trades a (suc b)) refl
    where
      by : (d : Option ℕ) → previous_trading_day trades a (suc b) ≡ d → SomeTradingDay trades a b d
      by (Some n) e = let r = previous-is a (suc b) n o e in (r.0, omega (arith, r.1.ordered), r.1.trading)
      by None e = λ n l h.
          ⊎_elim (λ (t : trades n ≡ true). let r = previous-one a (suc b) n o l (omega arith) t in absurd (no-day r.0 (sym e ∙ r.1))) (λ t. t)
          (test (trades n))

-- ---- what follows of it

-- The answers are days of years 1 to 9999.
in-years : (o : Option ℕ) → ((m : ℕ) → o ≡ Some m → (first_day ≤ m) × (m ≤ last_day)) → InYears o
in-years (Some m) h = h m refl
in-years None h = tt

pub next-in-years : (trades : ℕ → Bool) (last n : ℕ) → last ≤ last_day → InYears (next_trading_day trades last n)
next-in-years trades last n h =
    in-years (next_trading_day trades last n) (λ m e. let r = next-is trades last n m e in (omega (arith, r.1.ordered), omega (arith, r.0)))

pub previous-in-years : (trades : ℕ → Bool) (first n : ℕ) → first_day ≤ first → n ≤ last_day → InYears (previous_trading_day trades first n)
previous-in-years trades first n o h =
    in-years (previous_trading_day trades first n) (λ m e. let r = previous-is trades first n m o e in (omega (arith, r.0), omega (arith, r.1.ordered)))

-- A call that may look further answers the same.
pub next-further : (trades : ℕ → Bool) (most high last n m : ℕ) → high ≤ last → NextStep trades most high n m → NextStep trades most last n m
next-further trades most high last n m h c =
    let r = next-is trades high n m c.0 in
    (next-by trades last n m (omega (arith, r.0)) r.1, c.1, c.2)

pub previous-further : (trades : ℕ → Bool) (most first low n m : ℕ) → 1 ≤ first → first ≤ low → PreviousStep trades most low n m → PreviousStep trades most first n m
previous-further trades most first low n m o h c =
    let r = previous-is trades low n m (omega arith) c.0 in
    (previous-by trades first n m o (omega (arith, r.0)) r.1, c.1, c.2)

-- Each call undoes the other.
pub steps-undo : StepsUndo
steps-undo trades first last o = record {
  previous-of-next = λ n m h t e.
      let b = (next-is trades last n m e).1 in
      previous-by trades first m n o h (record { trading = t; ordered = b.ordered; non-trading = b.non-trading });
  next-of-previous = λ n m h t e.
      let b = (previous-is trades first n m o e).1 in
      next-by trades last m n h (record { trading = t; ordered = b.ordered; non-trading = b.non-trading });
}

-- ---- where runs are short

module _ (trades : ℕ → Bool) (most first last : ℕ) (runs : ShortRuns trades most first last) where
  few : (m earlier later : ℕ) → first ≤ suc earlier → later ≤ suc last → Beside trades m earlier later → NonTradingBetween trades most earlier later
  few m earlier later l h b =
      let count = between-length earlier later b.ordered in
      record {
        ordered = b.ordered;
        at_most = ⊎_elim (λ (q : length (days_between earlier later) ≤ most). q)
            (λ (q : most < length (days_between earlier later)).
            let w = runs (suc earlier) l (omega arith) in
            absurd (clash (trades w.0) w.3 (b.non-trading w.0 w.1 (omega (arith, w.2)))))
            (order (length (days_between earlier later)) most);
        non-trading = b.non-trading;
      }

  pub next-is-short : (n m : ℕ) → first ≤ suc n → next_trading_day trades last n ≡ Some m → NextStep trades most last n m
  next-is-short n m l e =
      let r = next-is trades last n m e in
      (e, r.1.trading, few m n m l (omega (arith, r.0)) r.1)

  module _ (o : 1 ≤ first) where
    previous-is-short : (n m : ℕ) → n ≤ suc last → previous_trading_day trades first n ≡ Some m → PreviousStep trades most first n m
    previous-is-short n m h e =
        let r = previous-is trades first n m o e in
        (e, r.1.trading, few m m n (omega (arith, r.0)) h r.1)

    pub short-steps : ShortSteps trades most first last
    short-steps = record {
      next = next-is-short;
      previous = previous-is-short;
      next-answers = λ n l h.
          let w = runs (suc n) l (omega arith) in
          let r = finds-one trades (suc n) w.0 last w.1 (omega (arith, w.2)) w.3 in
          (r.0, next-is-short n r.0 l r.2);
      previous-answers = λ n l h.
          let w = runs (n - suc most) (omega arith) (omega arith) in
          let r = previous-one trades first n w.0 o (omega (arith, w.1)) (omega (arith, w.2)) w.3 in
          (r.0, previous-is-short n r.0 h r.1);
    }

pub steps-are-short : StepsAreShort
steps-are-short trades most first last o runs = short-steps trades most first last runs o
