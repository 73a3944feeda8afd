-- `request::read_number` meets its contract: what is handed to `decimal::value` are the digits that were counted.
use Rattle.std.proofs.Common.{arith}
use Rattle.request.proofs.RequestLaws.{digits_read}
use Rattle.request.proofs.read_number.Goals as goal

pub value-requires : goal.value-requires
value-requires c = let d = digits_read _ _ c.leading_digits-n.ensures in (d.0, omega (arith, d.1))
