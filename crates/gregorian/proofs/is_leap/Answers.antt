-- `gregorian::is_leap` meets its contract: both tests are computed for the 400 years after which they repeat.
use Prim.Native.Nat.{ℕ, suc, ◌-◌, ◌%◌}
use mathlib.Core.Path.{◌≡◌, refl, ap, sym, ◌∙◌}
use mathlib.Core.Bool.{Bool, true, false, cond, not, ◌&&◌, ◌||◌}
use lib.Dec.{eqb}
use native.Mathlib.Omega.{arith}
use Rattle.gregorian.specs.Calendar.{leap}
use Rattle.gregorian.proofs.Tests.{every, every-at}
use Rattle.gregorian.proofs.is_leap.Goals as goal

-- the code's test, and the definition's
abbrev by-16 : ℕ → Bool
by-16 y = eqb (y % 4) 0 && (not (eqb (y % 25) 0) || eqb (y % 16) 0)

abbrev by-400 : ℕ → Bool
by-400 y = cond (eqb (y % 100) 0) (eqb (y % 400) 0) (eqb (y % 4) 0)

-- year y of the 400, counted from 1
abbrev alike : ℕ → Bool
alike y = cond (by-16 (y - 1)) (by-400 (y - 1)) (not (by-400 (y - 1)))

all_alike : every alike 400 ≡ true
unfolding every
all_alike = refl

are-alike : (a b : Bool) → cond a b (not b) ≡ true → a ≡ b
are-alike true b e = sym e
are-alike false true e = e
are-alike false false e = refl

module _ (y : ℕ) where
  abbrev r : ℕ
  r = y % 400

  rest-4 : y % 4 ≡ r % 4
  rest-4 = omega arith

  rest-16 : y % 16 ≡ r % 16
  rest-16 = omega arith

  rest-25 : y % 25 ≡ r % 25
  rest-25 = omega arith

  rest-100 : y % 100 ≡ r % 100
  rest-100 = omega arith

  rest-400 : y % 400 ≡ r % 400
  rest-400 = omega arith

  repeats : by-16 y ≡ by-400 y
  repeats =
      let back : suc r - 1 ≡ r = omega arith in
      (λ j. eqb (rest-4 j) 0 && (not (eqb (rest-25 j) 0) || eqb (rest-16 j) 0))
      ∙ are-alike (by-16 r) (by-400 r) (ap (λ (i : ℕ). cond (by-16 i) (by-400 i) (not (by-400 i))) (sym back) ∙ every-at alike 400 all_alike (suc r) (omega arith) (omega arith))
      ∙ sym (λ j. cond (eqb (rest-100 j) 0) (eqb (rest-400 j) 0) (eqb (rest-4 j) 0))

pub returns : goal.returns
unfolding leap
returns c = repeats c.args.year
