-- `decimal::value`: the whole value is that from here on.
use Rattle.std.proofs.Common.{◌≡◌, drop}
use Rattle.decimal.specs.Decimal.{value_from, value_of}
use Rattle.decimal.proofs.value.Given as goal

abbrev pub invariant-loop-byte : goal.invariant-loop-byte
invariant-loop-byte l = value_of l.digits ≡ value_from l.value (drop l.byte-index l.digits)
