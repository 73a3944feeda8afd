-- `sheet_lines::lines::write_numbers`: the list gets shorter.
use Rattle.std.proofs.Common.{length}
use Rattle.sheet_lines.proofs.lines.+write_numbers.Given as goal

abbrev pub decreases-write_numbers : goal.decreases-write_numbers
decreases-write_numbers l = length l.numbers.now
