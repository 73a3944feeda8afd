-- The claims over any rule of which days trade: which days a step passes, from a day to its next or its previous trading day, docs/SCOPE.md
-- [agreement-call], and that the one undoes the other. All days are those from `first`, which is at least 1, to `last`. Assumes nothing.
use Rattle.std.specs.Prelude.{ℕ, suc, ◌+◌, ◌≤◌, ◌≡◌, Bool, true, Some}
use Rattle.ranges.specs.Ranges.{next_trading_day, previous_trading_day}
use Rattle.ranges.specs.Traversals.{NonTradingBetween}

-- the next of n is m, which trades, and at most `most` days are passed, none of which trades
abbrev pub NextStep : (ℕ → Bool) → ℕ → ℕ → ℕ → ℕ → Type 0
NextStep trades most last n m = (next_trading_day trades last n ≡ Some m) × (trades m ≡ true) × NonTradingBetween trades most n m

-- the previous of n likewise
abbrev pub PreviousStep : (ℕ → Bool) → ℕ → ℕ → ℕ → ℕ → Type 0
PreviousStep trades most first n m = (previous_trading_day trades first n ≡ Some m) × (trades m ≡ true) × NonTradingBetween trades most m n

-- No run of non-trading days from `low` to `high` is longer than `most`: of any `most + 1` days in a row at least one trades.
abbrev pub ShortRuns : (ℕ → Bool) → ℕ → ℕ → ℕ → Type 0
ShortRuns trades most low high = (n : ℕ) → low ≤ n → n + most ≤ high → (m : ℕ) × (n ≤ m) × (m ≤ n + most) × (trades m ≡ true)

-- Every step passes at most `most` days, none of which trades; and there is one wherever `most + 1` days are there to look at.
pub record ShortSteps (trades : ℕ → Bool) (most first last : ℕ) : Type 0 where
  pub next : (n m : ℕ) → first ≤ suc n → next_trading_day trades last n ≡ Some m → NextStep trades most last n m
  pub previous : (n m : ℕ) → n ≤ suc last → previous_trading_day trades first n ≡ Some m → PreviousStep trades most first n m
  pub next-answers : (n : ℕ) → first ≤ suc n → n + suc most ≤ last → (m : ℕ) × NextStep trades most last n m
  pub previous-answers : (n : ℕ) → first + suc most ≤ n → n ≤ suc last → (m : ℕ) × PreviousStep trades most first n m

-- the claim: that is so where runs are short
abbrev pub StepsAreShort : Type 0
StepsAreShort = (trades : ℕ → Bool) (most first last : ℕ) → 1 ≤ first → ShortRuns trades most first last → ShortSteps trades most first last

-- Where a trading day has a next, previous of that is the day itself; and the other way round.
pub record UndoneSteps (trades : ℕ → Bool) (first last : ℕ) : Type 0 where
  pub previous-of-next : (n m : ℕ) → first ≤ n → trades n ≡ true → next_trading_day trades last n ≡ Some m → previous_trading_day trades first m ≡ Some n
  pub next-of-previous : (n m : ℕ) → n ≤ last → trades n ≡ true → previous_trading_day trades first n ≡ Some m → next_trading_day trades last m ≡ Some n

-- the claim: that is so over any rule
abbrev pub StepsUndo : Type 0
StepsUndo = (trades : ℕ → Bool) (first last : ℕ) → 1 ≤ first → UndoneSteps trades first last
