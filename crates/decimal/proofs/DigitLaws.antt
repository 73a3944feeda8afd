-- The laws of reading digits.
-- Assumes nothing.
use Prim.Native.Nat.{ℕ, suc, ◌+◌, ◌-◌, ◌*◌, ◌^◌, ◌≤◌, ◌<◌}
use mathlib.Core.Path.{◌≡◌, refl, ap, ◌∙◌}
use mathlib.Core.Bool.{true, false, and-false}
use mathlib.Core.Logic.{◌⊎◌, inl, inr, ⊎_elim}
use mathlib.Core.List.{List, [], ◌∷◌, ◌++◌}
use lib.ListN.{length, take, drop, get_or, drop_of_length-le}
use lib.Seq.{drop-cons}
use native.Mathlib.Decide.{dec_le}
use native.Mathlib.Nat.{pow-suc, mul-le-mul_right, pow-le-pow_right}
use native.Mathlib.Numerals.{add-one}
use native.Mathlib.Omega.{arith}
use borrow.Author.Tests.{le-leb, lt-leb}
use Rattle.std.specs.Char.{is_ascii_digit}
use Rattle.std.proofs.lemmas.List.Sums.{prefix_len-le-length, prefix_len_passes}
use Rattle.std.proofs.Common.{rules, tests}
use Rattle.decimal.specs.Decimal.{leading_digits, value_from, value_of}

-- ---- one byte

digit : (b : ℕ) → 48 ≤ b → b ≤ 57 → is_ascii_digit b ≡ true
digit b low high = simp (le-leb 48 b low, le-leb b 57 high)

digit-or-not : (b : ℕ) → ((48 ≤ b) × (b ≤ 57)) ⊎ (is_ascii_digit b ≡ false)
digit-or-not b =
    elim (dec_le 48 b) [
      | no h ↦ inr (simp (lt-leb 48 b (omega arith)))
      | yes low ↦ elim (dec_le b 57) [ yes high ↦ inl (low, high) | no h ↦ inr (simp (lt-leb b 57 (omega arith), and-false)) ]
    ]

-- ---- how many digits a text starts with

-- a digit first, or another byte
pub one_more : (b : ℕ) (text : List ℕ) → 48 ≤ b → b ≤ 57 → leading_digits (b ∷ text) ≡ suc (leading_digits text)
unfolding leading_digits
one_more b text low high = simp (digit b low high) (omega arith)

none : (b : ℕ) (text : List ℕ) → is_ascii_digit b ≡ false → leading_digits (b ∷ text) ≡ 0
unfolding leading_digits
none b text e = simp e

-- Induction: the text is empty, or starts with a digit, or with another byte.
pub by_digits : (P : List ℕ → Type 0) → P []
    → ((b : ℕ) (text : List ℕ) → 48 ≤ b → b ≤ 57 → leading_digits (b ∷ text) ≡ suc (leading_digits text) → P text → P (b ∷ text))
    → ((b : ℕ) (text : List ℕ) → leading_digits (b ∷ text) ≡ 0 → P (b ∷ text))
    → (text : List ℕ) → P text
by_digits P empty more other [] = empty
by_digits P empty more other (b ∷ text) =
    ⊎_elim (λ (d : (48 ≤ b) × (b ≤ 57)). more b text d.0 d.1 (one_more b text d.0 d.1) (by_digits P empty more other text))
    (λ (e : is_ascii_digit b ≡ false). other b text (none b text e))
    (digit-or-not b)

-- They lie within the text, and each of them is a digit.
pub leading_le : (text : List ℕ) → leading_digits text ≤ length text
unfolding leading_digits
leading_le text = prefix_len-le-length is_ascii_digit text

pub digit_at : (text : List ℕ) (i : ℕ) → i < leading_digits text → (48 ≤ get_or text i 0) × (get_or text i 0 ≤ 57)
unfolding leading_digits
digit_at text i h = let e : is_ascii_digit (get_or text i 0) ≡ true = prefix_len_passes is_ascii_digit text i 0 h in search (rules, tests)

-- so many bytes of the text are digits
pub leading-take : (text : List ℕ) → leading_digits (take (leading_digits text) text) ≡ leading_digits text
unfolding leading_digits
leading-take =
    by_digits (λ text. leading_digits (take (leading_digits text) text) ≡ leading_digits text) refl
    (λ b text low high e h. rw e (one_more b (take (leading_digits text) text) low high ∙ ap suc h))
    (λ b text e. rw e refl)

-- digits, and then another text
pub leading-append : (digits text : List ℕ) → leading_digits digits ≡ length digits → leading_digits (digits ++ text) ≡ length digits + leading_digits text
unfolding leading_digits
leading-append digits text =
    by_digits (λ digits. leading_digits digits ≡ length digits → leading_digits (digits ++ text) ≡ length digits + leading_digits text) (λ h. omega arith)
    (λ b digits low high e rest h. omega (arith, one_more b (digits ++ text) low high, rest (omega arith)))
    (λ b digits e h. absurd (omega arith))
    digits

-- ---- the value of digits

-- from a position on: one more, none at the end
pub value-more : (digits : List ℕ) (i n : ℕ) → i < length digits
    → value_from n (drop i digits) ≡ value_from (n * 10 + (get_or digits i 0 - 48)) (drop (i + 1) digits)
unfolding value_from
value-more digits i n h = rw (add-one, drop-cons digits i 0 h) refl

pub value-end : (digits : List ℕ) (i n : ℕ) → length digits ≤ i → value_from n (drop i digits) ≡ n
unfolding value_from
value-end digits i n h = rw (drop_of_length-le digits h) refl

-- digits, and then others
pub value-append : (n : ℕ) (digits more : List ℕ) → value_from n (digits ++ more) ≡ value_from (value_from n digits) more
unfolding value_from
value-append n [] more = refl
value-append n (b ∷ digits) more = value-append (n * 10 + (b - 48)) digits more

-- The value only grows from digit to digit; that of n digits is below 10 ^ n, and so that of nine below 10 ^ 9.
pub value_grows : (digits : List ℕ) (n : ℕ) → n ≤ value_from n digits
unfolding value_from
value_grows [] n = omega arith
value_grows (b ∷ digits) n = omega (arith, value_grows digits (n * 10 + (b - 48)))

value-below : (digits : List ℕ) (n : ℕ) → leading_digits digits ≡ length digits → value_from n digits < (n + 1) * 10 ^ length digits
unfolding value_from leading_digits
value-below =
    by_digits (λ digits. (n : ℕ) → leading_digits digits ≡ length digits → value_from n digits < (n + 1) * 10 ^ length digits) (λ n h. omega arith)
    (λ b digits low high e rest n h.
    let next = n * 10 + (b - 48) in
    let ten : next + 1 ≤ (n + 1) * 10 = omega arith in
    rw pow-suc (omega (arith, rest next (omega arith), mul-le-mul_right (10 ^ length digits) ten)))
    (λ b digits e n h. absurd (omega arith))

pub value-bound : (digits : List ℕ) → leading_digits digits ≡ length digits → length digits ≤ 9 → value_of digits < 10 ^ 9
value-bound digits h short =
    let most : 10 ^ length digits ≤ 10 ^ 9 = pow-le-pow_right (omega arith) short in
    omega (arith, value-below digits 0 h, most)
