-- The claim over any rule of which days trade: where runs of non-trading days are short, the ways to the trading days of a range agree.
-- docs/SCOPE.md [agreement] is this for the calls. Assumes nothing.
use Rattle.std.specs.Prelude.{ℕ, suc, ◌+◌, ◌-◌, ◌≤◌, ◌≡◌, Bool, ◌&&◌, List, [], ◌∷◌, reverse, leb, length, None}
use Rattle.ranges.specs.Ranges.{filter, trading_days, next_trading_day, previous_trading_day, count_trading_days, sum_of, joined}
use Rattle.ranges.specs.Traversals.{TraversalTo, EndsOutside, TraversalOf, EndsOutsideOrNone}
use Rattle.ranges.specs.Steps.{NextStep, PreviousStep, ShortRuns}

-- ---- parts and months

pub record DateRange : Type 0 where
  pub first : ℕ
  pub last : ℕ

-- [agreement-parts]: the parts ("pieces") of the range from a to b. Each split date ("cut date") starts a part, and the part before it
-- ends on the day before.
abbrev pub parts : ℕ → List ℕ → ℕ → List DateRange
parts a [] b = record { first = a; last = b } ∷ []
parts a (c ∷ splits) b = record { first = a; last = c - 1 } ∷ parts c splits b

-- [reading-split-dates]: the split dates are in order, from a to b or the day after b, which starts an empty part. Two may be equal.
-- In the recursion, a is the split date before.
abbrev pub Splits : ℕ → List ℕ → ℕ → Type 0
Splits a [] b = a ≤ suc b
Splits a (c ∷ splits) b = (a ≤ c) × Splits c splits b

-- [agreement-months]: each range starts on the day after the one before, from day a on to day b
abbrev pub Tile : ℕ → List DateRange → ℕ → Type 0
Tile a [] b = a ≡ suc b
Tile a (r ∷ rs) b = (r.first ≡ a) × (a ≤ suc r.last) × Tile (suc r.last) rs b

-- the count of a range, and the list of a range
abbrev pub count_of : (ℕ → Bool) → DateRange → ℕ
count_of trades r = count_trading_days trades r.first r.last

abbrev pub list_of : (ℕ → Bool) → DateRange → List ℕ
list_of trades r = trading_days trades r.first r.last

-- [agreement-months]: those of the days that lie from a to b
abbrev pub limit_to : ℕ → ℕ → List ℕ → List ℕ
limit_to a b = filter (λ n. leb a n && leb n b)

-- ---- the theorem

-- The ways to the trading days from a to b agree: [agreement-forward], [agreement-backward], [agreement-count], [agreement-parts] and
-- [agreement-months]. All days are those from `first`, which is at least 1, to `last`. Both starts of a traversal are stated: on the day beside the range, and,
-- for where that is no day of these, on the first or the last trading day of the range. `NextEnds` and `PreviousEnds` say how it ends.
pub record AgreementTo (trades : ℕ → Bool) (most first last a b : ℕ) (NextEnds PreviousEnds : ℕ → Type 0) : Type 0 where
  pub forward : TraversalTo (NextStep trades most last) (λ m. leb m b) NextEnds (a - 1) (trading_days trades a b)
  pub forward-of : TraversalOf (NextStep trades most last) (λ m. leb m b) NextEnds (trading_days trades a b)
  pub backward : TraversalTo (PreviousStep trades most first) (λ m. leb a m) PreviousEnds (suc b) (reverse (trading_days trades a b))
  pub backward-of : TraversalOf (PreviousStep trades most first) (λ m. leb a m) PreviousEnds (reverse (trading_days trades a b))
  pub count : count_trading_days trades a b ≡ length (trading_days trades a b)
  pub parts-add-up : (splits : List ℕ) → Splits a splits b → sum_of (count_of trades) (parts a splits b) ≡ count_trading_days trades a b
  pub empty-part : (c : ℕ) → a ≤ c → count_trading_days trades c (c - 1) ≡ 0
  pub months : (low high : ℕ) (rs : List DateRange) → Tile low rs high → low ≤ a → b ≤ high → limit_to a b (joined (list_of trades) rs) ≡ trading_days trades a b

-- A traversal may also end by none, where no trading day is left up to `last` or down to `first`.
abbrev pub AgreementToEnds : (ℕ → Bool) → ℕ → ℕ → ℕ → ℕ → ℕ → Type 0
AgreementToEnds trades most first last a b =
    AgreementTo trades most first last a b (EndsOutsideOrNone (NextStep trades most last) (λ n. next_trading_day trades last n ≡ None) (λ m. leb m b))
    (EndsOutsideOrNone (PreviousStep trades most first) (λ n. previous_trading_day trades first n ≡ None) (λ m. leb a m))

-- The same where every call answers: only an answer outside the range ends a traversal.
abbrev pub Agreement : (ℕ → Bool) → ℕ → ℕ → ℕ → ℕ → ℕ → Type 0
Agreement trades most first last a b =
    AgreementTo trades most first last a b (EndsOutside (NextStep trades most last) (λ m. leb m b)) (EndsOutside (PreviousStep trades most first) (λ m. leb a m))

-- the claim: where runs are short, for every range within `first` to `last`; a traversal may end by none
abbrev pub Agree : Type 0
Agree =
    (trades : ℕ → Bool) (most first last a b : ℕ) → 1 ≤ first → ShortRuns trades most first last → first ≤ a → a ≤ b → b ≤ last
    → AgreementToEnds trades most first last a b

-- The claim where runs are short from `low` to `high`, which reach further than the range by `most + 1` days on each side, whatever
-- the runs are before and after: no traversal ends by none.
abbrev pub AgreeInside : Type 0
AgreeInside =
    (trades : ℕ → Bool) (most first last low high a b : ℕ) → 1 ≤ first → ShortRuns trades most low high → first ≤ low → high ≤ last
    → low + suc most ≤ a → a ≤ b → b + suc most ≤ high → Agreement trades most first last a b
