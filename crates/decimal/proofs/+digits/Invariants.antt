-- `decimal::digits`: the number falls.
use Rattle.decimal.proofs.+digits.Given as goal

abbrev pub decreases-digits : goal.decreases-digits
decreases-digits l = l.value
