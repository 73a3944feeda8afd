-- `decimal::write`: the number falls.
use Rattle.decimal.proofs.+write.Given as goal

abbrev pub decreases-write : goal.decreases-write
decreases-write l = l.value
