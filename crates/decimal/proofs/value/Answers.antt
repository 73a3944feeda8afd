-- `decimal::value` meets its contract: each turn of the loop takes one digit more.
use Prim.Native.Nat.{ℕ, ◌+◌, ◌-◌, ◌*◌, ◌^◌, ◌≤◌, ◌<◌}
use mathlib.Core.Path.{◌≡◌, sym, ◌∙◌}
use mathlib.Core.List.{List}
use lib.ListN.{length, get_or, drop}
use native.Mathlib.Omega.{arith}
use Rattle.decimal.specs.Decimal.{leading_digits, value_from, value_of}
use Rattle.decimal.proofs.DigitLaws.{digit_at, value-more, value-end, value_grows, value-bound}
use Rattle.decimal.proofs.value.Goals as goal

-- The byte at i is a digit; the value with it is at most the whole value, and so below 10 ^ 9.
value-here : (digits : List ℕ) (i n : ℕ) → leading_digits digits ≡ length digits → length digits ≤ 9 → i < length digits
    → value_of digits ≡ value_from n (drop i digits)
    → (let byte = get_or digits i 0 in (48 ≤ byte) × (byte ≤ 57) × (n * 10 + (byte - 48) < 10 ^ 9))
value-here digits i n all short h e =
    let whole : value_of digits < 10 ^ 9 = value-bound digits all short in
    let byte = digit_at digits i (omega arith) in
    (byte.0, byte.1, omega (arith, value-more digits i n h, value_grows (drop (i + 1) digits) (n * 10 + (get_or digits i 0 - 48))))

pub overflow_mul-value : goal.overflow_mul-value
overflow_mul-value c = omega (arith, value-here _ _ _ c.requires.0 c.requires.1 (omega arith) c.loop-byte.invariant)

pub overflow_sub-byte : goal.overflow_sub-byte
overflow_sub-byte c = omega (arith, value-here _ _ _ c.requires.0 c.requires.1 (omega arith) c.loop-byte.invariant)

pub overflow_add-value : goal.overflow_add-value
overflow_add-value c = omega (arith, value-here _ _ _ c.requires.0 c.requires.1 (omega arith) c.loop-byte.invariant, c.from.ensures)

pub loop-byte-preserved : goal.loop-byte-preserved
loop-byte-preserved c = rw c.from.ensures (c.loop-byte.invariant ∙ value-more _ c.loop-byte.byte-index c.loop-byte.value (omega arith))

pub returns : goal.returns
returns c = sym (c.loop-byte.invariant ∙ value-end _ c.loop-byte.byte-index _ (omega arith))
