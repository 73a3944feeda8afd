-- `sheet_lines::lines::write_lines`: the lines left get fewer.
use Rattle.std.proofs.Common.{◌-◌}
use Rattle.sheet_lines.proofs.lines.+write_lines.Given as goal

abbrev pub decreases-write_lines : goal.decreases-write_lines
decreases-write_lines l = 4 - l.line
