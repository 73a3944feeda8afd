-- `decimal::digits` meets its contract: a tenth of the number has one digit less.
use Rattle.std.proofs.Common.{◌≡◌, ◌+◌, length, arith}
use Rattle.decimal.specs.Decimal.{decimal}
use Rattle.decimal.proofs.DecimalLaws.{length-one, length_more, length-u32}
use Rattle.decimal.proofs.+digits.Goals as goal

pub returns-then-value-ge10 : goal.returns-then-value-ge10
returns-then-value-ge10 t c =
    let more : c.digits.result + 1 ≡ length (decimal c.args.value) = omega (arith, length_more c.args.value (omega arith)) in
    (more, omega (arith, length-u32 c.args.value (omega arith)))

pub returns-else-value-ge10 : goal.returns-else-value-ge10
returns-else-value-ge10 t c = (omega (arith, length-one c.args.value (omega arith)), omega arith)
