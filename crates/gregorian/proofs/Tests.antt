-- Tests that are joined, and a test that is computed at each number of a range.
-- Assumes nothing.
use Prim.Native.Nat.{ℕ, zero, suc, ◌≤◌, ◌<◌}
use mathlib.Core.Path.{◌≡◌, refl, sym, subst}
use mathlib.Core.Bool.{Bool, true, false, ◌&&◌}
use mathlib.Core.Logic.{⊎_elim}
use native.Mathlib.Omega.{arith}
use native.Mathlib.Nat.{eq-or-lt_of_le, le_of_suc-le-suc}

pub and_left : (a b : Bool) → (a && b) ≡ true → a ≡ true
and_left true b e = refl
and_left false b e = e

pub and_right : (a b : Bool) → (a && b) ≡ true → b ≡ true
and_right true b e = e
and_right false b e = cc

pub and-true : (a : Bool) → (a && true) ≡ a
and-true true = refl
and-true false = refl

pub and-false : (a : Bool) → (a && false) ≡ false
and-false true = refl
and-false false = refl

-- the test passes at each number from 1 to n
unfoldable pub every : (ℕ → Bool) → ℕ → Bool
every test zero = true
every test (suc n) = test (suc n) && every test n

pub every-at : (test : ℕ → Bool) (n : ℕ) → every test n ≡ true → (k : ℕ) → 1 ≤ k → k ≤ n → test k ≡ true
unfolding every
every-at test zero e k l h = absurd (omega arith)
every-at test (suc n) e k l h =
    ⊎_elim (λ (q : k ≡ suc n). subst (λ (i : ℕ). test i ≡ true) (sym q) (and_left (test (suc n)) _ e))
    (λ (q : k < suc n). every-at test n (and_right (test (suc n)) _ e) k l (le_of_suc-le-suc q))
    (eq-or-lt_of_le h)
