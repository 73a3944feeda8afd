-- Inner: no exported contract and no claim rests on these. The integer that a number taken apart by its sign is. Assumes nothing.
use Rattle.std.specs.Prelude.{ℤ, pos, negsuc}
use Rattle.signed.specs.declared.Signed.{Signed}
use Rattle.signed.specs.declared.Signed.TheVariants.{NotNegative, Negative}

-- negsuc k is -(k + 1)
abbrev pub integer : Signed → ℤ
integer (NotNegative n) = pos n
integer (Negative k) = negsuc k
