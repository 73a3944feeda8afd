-- What appending a decimal digit to a number gives. Assumes nothing.
use Rattle.std.specs.Prelude.{ℕ, ◌+◌, ◌*◌, ◌^◌, Bool, true, false, ltb, Option, Some, None}

-- the number, where 32 bits hold it
abbrev pub within : Bool → ℕ → Option ℕ
within true n = Some n
within false n = None

abbrev pub appended : ℕ → ℕ → Option ℕ
appended value digit = within (ltb (value * 10 + digit) (2 ^ 32)) (value * 10 + digit)
