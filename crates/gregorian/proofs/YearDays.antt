-- The days of the years 1 to n by a formula.
-- Assumes nothing.
use Prim.Native.Nat.{ℕ, suc, ◌+◌, ◌-◌, ◌*◌, ◌/◌, ◌%◌}
use mathlib.Core.Path.{◌≡◌, refl}
use mathlib.Core.Bool.{Bool, true, false, cond}
use lib.Dec.{eqb}
use native.Mathlib.Omega.{arith}
use borrow.Author.Tests.{eqb-true, eqb-false}
use Rattle.gregorian.specs.Calendar.{total, leap, leap_day, year_length}
use Rattle.gregorian.proofs.Total.{total-is}

abbrev pub years : ℕ → ℕ
years n = 365 * n + n / 4 - n / 100 + n / 400

-- what one year more does to the three quotients
up4 : (n : ℕ) → suc n % 4 ≡ 0 → suc n / 4 ≡ n / 4 + 1
up4 n h = omega arith

stay4 : (n : ℕ) → (suc n % 4 ≡ 0 → ⊥) → suc n / 4 ≡ n / 4
stay4 n h = omega arith

up100 : (n : ℕ) → suc n % 100 ≡ 0 → (suc n / 4 ≡ n / 4 + 1) × (suc n / 100 ≡ n / 100 + 1)
up100 n h = omega arith

stay100 : (n : ℕ) → (suc n % 100 ≡ 0 → ⊥) → (suc n / 100 ≡ n / 100) × (suc n / 400 ≡ n / 400)
stay100 n h = omega arith

up400 : (n : ℕ) → suc n % 400 ≡ 0 → suc n / 400 ≡ n / 400 + 1
up400 n h = omega arith

stay400 : (n : ℕ) → (suc n % 400 ≡ 0 → ⊥) → suc n / 400 ≡ n / 400
stay400 n h = omega arith

step : (n : ℕ) (a b c : Bool) → eqb (suc n % 100) 0 ≡ a → eqb (suc n % 400) 0 ≡ b → eqb (suc n % 4) 0 ≡ c → years n + (365 + cond (cond a b c) 1 0) ≡ years (suc n)
step n true true c p q r =
    let h = up100 n (eqb-true (suc n % 100) 0 p) in
    rw (h.0, h.1, up400 n (eqb-true (suc n % 400) 0 q)) (omega arith)
step n true false c p q r =
    let h = up100 n (eqb-true (suc n % 100) 0 p) in
    rw (h.0, h.1, stay400 n (eqb-false (suc n % 400) 0 q)) (omega arith)
step n false b true p q r =
    let h = stay100 n (eqb-false (suc n % 100) 0 p) in
    rw (up4 n (eqb-true (suc n % 4) 0 r), h.0, h.1) (omega arith)
step n false b false p q r =
    let h = stay100 n (eqb-false (suc n % 100) 0 p) in
    rw (stay4 n (eqb-false (suc n % 4) 0 r), h.0, h.1) (omega arith)

pub years-is : (n : ℕ) → total year_length n ≡ years n
unfolding year_length leap_day leap
years-is = total-is year_length years refl (λ n. step n _ _ _ refl refl refl)
