-- Traversals of the trading days of a range, call by call, and what a call passes: docs/SCOPE.md [agreement-forward], [agreement-backward],
-- [agreement-call]. Assumes nothing.
use Rattle.std.specs.Prelude.{ℕ, ◌≤◌, ◌<◌, ◌≡◌, Bool, true, false, ◌⊎◌, List, [], ◌∷◌, length}
use Rattle.ranges.specs.Ranges.{days_between}

-- [agreement-call]: the days strictly between two days (the closed days that a "step" passes) are at most `most`, and none trades.
pub record NonTradingBetween (trades : ℕ → Bool) (most earlier later : ℕ) : Type 0 where
  pub ordered : earlier < later
  pub at_most : length (days_between earlier later) ≤ most
  pub non-trading : (k : ℕ) → earlier < k → k < later → trades k ≡ false

-- A traversal ("walk") from n lists these answers: call after call, each on the answer before, while that is inside. `Call n m` says
-- that the call on n answers m, and what else is to hold of that call ("step"). `Ends n` says that the call on n ends the traversal; its
-- answer, if any, is not listed. proofs/Traversals.antt, `traversal-unique`: where a call has one answer, and one that ends the traversal
-- has none inside, there is no other list.
abbrev pub TraversalTo : {A : Type 0} → (A → A → Type 0) → (A → Bool) → (A → Type 0) → A → List A → Type 0
TraversalTo Call inside Ends n [] = Ends n
TraversalTo Call inside Ends n (m ∷ ms) = Call n m × (inside m ≡ true) × TraversalTo Call inside Ends m ms

-- the call on n answers, and the answer is not inside
abbrev pub EndsOutside : {A : Type 0} → (A → A → Type 0) → (A → Bool) → A → Type 0
EndsOutside Call inside n = (m : _) × Call n m × (inside m ≡ false)

-- Only such an answer ends the traversal: every call answers, the last one too.
abbrev pub Traversal : {A : Type 0} → (A → A → Type 0) → (A → Bool) → A → List A → Type 0
Traversal Call inside = TraversalTo Call inside (EndsOutside Call inside)

-- A traversal that starts on the first item of its own list, a range's trading days. Where there is none, nothing is called.
abbrev pub TraversalOf : {A : Type 0} → (A → A → Type 0) → (A → Bool) → (A → Type 0) → List A → Type 0
TraversalOf Call inside Ends [] = Unit {0}
TraversalOf Call inside Ends (m ∷ ms) = TraversalTo Call inside Ends m ms

-- It ends with an answer that is not inside, or with none: `NoAnswer n` says that the call on n answers none.
abbrev pub EndsOutsideOrNone : {A : Type 0} → (A → A → Type 0) → (A → Type 0) → (A → Bool) → A → Type 0
EndsOutsideOrNone Call NoAnswer inside n = EndsOutside Call inside n ⊎ NoAnswer n
