-- Numbers in decimal, as ASCII bytes: docs/SCOPE.md [sheet-numbers], [sheet-input]. Assumes nothing.
use Rattle.std.specs.Prelude.{ℕ, zero, suc, ◌+◌, ◌-◌, ◌*◌, ◌/◌, ◌%◌, cond, List, [], ◌∷◌, ◌++◌, ltb}
use Rattle.std.specs.List.{prefix_len}
use Rattle.std.specs.Char.{is_ascii_digit}

-- ---- written

-- the last digits of n, at most as many as the first number says
unfoldable pub decimal_in : ℕ → ℕ → List ℕ
decimal_in zero n = []
decimal_in (suc most) n =
    let longer = decimal_in most (n / 10) ++ ((48 + n % 10) ∷ []) in
    cond (ltb n 10) ((48 + n) ∷ []) longer

-- [sheet-numbers]: the most significant digit first, no leading zeros. A number n has at most n + 1 digits.
unfoldable pub decimal : ℕ → List ℕ
decimal n = decimal_in (suc n) n

-- ---- read

-- how many digits, `0` to `9`, the text starts with
unfoldable pub leading_digits : List ℕ → ℕ
leading_digits text = prefix_len is_ascii_digit text

-- the value of n and then these digits
unfoldable pub value_from : ℕ → List ℕ → ℕ
value_from n [] = n
value_from n (b ∷ digits) = value_from (n * 10 + (b - 48)) digits

-- the value of a digit string
abbrev pub value_of : List ℕ → ℕ
value_of digits = value_from 0 digits
