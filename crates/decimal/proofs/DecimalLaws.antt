-- The laws of a number in decimal: its two equations, how long it is, its digits in a buffer, and as a digit string.
-- Assumes nothing.
use Prim.Native.Nat.{ℕ, zero, suc, ◌+◌, ◌/◌, ◌%◌, ◌^◌, ◌≤◌, ◌<◌}
use mathlib.Core.Path.{◌≡◌, refl, sym, ap}
use mathlib.Core.Logic.{◌⊎◌, inl, inr, ⊎_elim}
use mathlib.Core.List.{List, [], ◌∷◌, ◌++◌}
use lib.ListN.{length, get_or, set, length-append, get_or-append}
use native.Mathlib.Nat.{pow-suc}
use native.Mathlib.Decide.{dec_lt}
use native.Mathlib.Omega.{arith}
use borrow.Author.Tests.{lt-ltb, le-ltb}
use Rattle.buffers.specs.Buffers.{overwrite}
use Rattle.buffers.proofs.BufferLaws.{overwrite-none, overwrite-byte}
use Rattle.decimal.specs.Decimal.{decimal_in, decimal, leading_digits, value_from, value_of}
use Rattle.decimal.proofs.DigitLaws.{one_more, leading-append, value-append}

-- ---- the two equations

one-digit-or-more : (n : ℕ) → (n < 10) ⊎ (10 ≤ n)
one-digit-or-more n = elim (dec_lt n 10) [ yes h ↦ inl h | no h ↦ inr (omega arith) ]

-- With more digits allowed than n has, the answer is the same.
enough : (f g n : ℕ) → n ≤ f → n ≤ g → decimal_in (suc f) n ≡ decimal_in (suc g) n
unfolding decimal_in
enough zero g n p q = let h : n < 10 = omega arith in simp (lt-ltb n 10 h)
enough (suc f) zero n p q = let h : n < 10 = omega arith in simp (lt-ltb n 10 h)
enough (suc f) (suc g) n p q =
    ⊎_elim
    (λ h. simp (lt-ltb n 10 h))
    (λ h. let tenth = enough f g (n / 10) (omega arith) (omega arith) in simp (le-ltb n 10 h) (ap (λ (l : List ℕ). l ++ ((48 + n % 10) ∷ [])) tenth))
    (one-digit-or-more n)

decimal-one : (n : ℕ) → n < 10 → decimal n ≡ (48 + n) ∷ []
unfolding decimal decimal_in
decimal-one n h = simp (lt-ltb n 10 h)

decimal-more : (n : ℕ) → 10 ≤ n → decimal n ≡ decimal (n / 10) ++ ((48 + n % 10) ∷ [])
unfolding decimal decimal_in
decimal-more zero h = absurd (omega arith)
decimal-more (suc m) h =
    simp (le-ltb (suc m) 10 h)
    (ap (λ (l : List ℕ). l ++ ((48 + suc m % 10) ∷ [])) (enough m (suc m / 10) (suc m / 10) (omega arith) (omega arith)))

-- What holds of one digit, and of a number if it holds of its tenth, holds of every number.
by-tens : (P : ℕ → Type 0) → ((n : ℕ) → n < 10 → P n) → ((n : ℕ) → 10 ≤ n → P (n / 10) → P n) → (n : ℕ) → P n
by-tens P one more n = up_to n n (omega arith)
  where
    up_to : (most n : ℕ) → n ≤ most → P n
    up_to zero n h = one n (omega arith)
    up_to (suc most) n h = ⊎_elim (λ p. one n p) (λ p. more n p (up_to most (n / 10) (omega arith))) (one-digit-or-more n)

-- ---- how long it is

pub length-one : (n : ℕ) → n < 10 → length (decimal n) ≡ 1
length-one n h = ap length (decimal-one n h)

pub length_more : (n : ℕ) → 10 ≤ n → length (decimal n) ≡ length (decimal (n / 10)) + 1
length_more n h = rw (decimal-more n h, length-append) refl

pub length-positive : (n : ℕ) → 1 ≤ length (decimal n)
length-positive n = ⊎_elim (λ h. omega (arith, length-one n h)) (λ h. omega (arith, length_more n h)) (one-digit-or-more n)

-- A number below 10 ^ (k + 1) has at most k + 1 digits.
pub length-at-most : (k n : ℕ) → n < 10 ^ suc k → length (decimal n) ≤ suc k
length-at-most zero n h = omega (arith, length-one n (omega arith))
length-at-most (suc k) n h =
    ⊎_elim
    (λ p. omega (arith, length-one n p))
    (λ p. let shorter : n / 10 < 10 ^ suc k = omega (arith, pow-suc 10 (suc k)) in
    omega (arith, length_more n p, length-at-most k (n / 10) shorter))
    (one-digit-or-more n)

pub length-u32 : (n : ℕ) → n < 2 ^ 32 → length (decimal n) ≤ 10
length-u32 n h = length-at-most 9 n (omega arith)

-- ---- in a buffer

-- the digit of a number below 10
pub write-one : (n : ℕ) (buffer : List ℕ) → n < 10 → length (decimal n) ≤ length buffer
    → (1 ≡ length (decimal n)) × (set buffer 0 (48 + n) ≡ overwrite (decimal n) buffer)
write-one n buffer h fits =
    let one = length-one n h in
    (sym one, rw (decimal-one n h) (rw overwrite-none at (overwrite-byte [] buffer (48 + n) 0 refl (omega arith))))

-- the last digit, after those of the tenth
pub write-more : (n : ℕ) (buffer out : List ℕ) (k : ℕ) → 10 ≤ n → length (decimal n) ≤ length buffer → k ≡ length (decimal (n / 10))
    → out ≡ overwrite (decimal (n / 10)) buffer → (k + 1 ≡ length (decimal n)) × (set out k (48 + n % 10) ≡ overwrite (decimal n) buffer)
write-more n buffer out k h fits e q =
    let longer = length_more n h in
    (omega arith, rw (decimal-more n h, q) (overwrite-byte (decimal (n / 10)) buffer (48 + n % 10) k (sym e) (omega arith)))

-- what the writer of a number needs
pub ruleset written = (length-one, length_more, write-one, write-more)

-- ---- as a digit string

-- All its bytes are digits.
pub decimal-digits : (n : ℕ) → leading_digits (decimal n) ≡ length (decimal n)
unfolding leading_digits
decimal-digits =
    by-tens (λ n. leading_digits (decimal n) ≡ length (decimal n)) (λ n h. rw (decimal-one n h) (last n h))
    (λ n h tenth. rw (decimal-more n h, length-append, leading-append (decimal (n / 10)) _ tenth, last (n % 10) (omega arith)) refl)
  where
    last : (d : ℕ) → d < 10 → leading_digits ((48 + d) ∷ []) ≡ 1
    last d h = one_more (48 + d) [] (omega arith) (omega arith)

-- Its value is the number.
pub decimal-value : (n : ℕ) → value_of (decimal n) ≡ n
unfolding value_from
decimal-value =
    by-tens (λ n. value_of (decimal n) ≡ n) (λ n h. rw (decimal-one n h) (omega arith))
    (λ n h tenth. rw (decimal-more n h, value-append, tenth) (omega arith))

-- The first of two or more digits is no `0`.
pub no-leading-zero : (n : ℕ) → 1 < length (decimal n) → get_or (decimal n) 0 0 ≡ 48 → ⊥
no-leading-zero n long = first n (⊎_elim (λ h. absurd (omega (arith, length-one n h))) (λ h. omega arith) (one-digit-or-more n))
  where
    first : (n : ℕ) → 1 ≤ n → get_or (decimal n) 0 0 ≡ 48 → ⊥
    first =
        by-tens (λ n. 1 ≤ n → get_or (decimal n) 0 0 ≡ 48 → ⊥)
        (λ n p h e. let z = rw (decimal-one n p) at e in omega arith)
        (λ n p tenth h e.
        let z = rw (decimal-more n p, get_or-append (decimal (n / 10)) ((48 + n % 10) ∷ []) 0 0 (length-positive (n / 10))) at e in
        tenth (omega arith) z)
