-- `sheet_lines::lines::write_field` meets its contract: each arm writes its line.
use Rattle.std.proofs.Common.{◌≡◌, arith}
use Rattle.sheet_lines.specs.Sheet.{sheet_lines}
use Rattle.sheet_lines.proofs.lines.write_field.Goals as goal

pub write_line-requires : goal.write_line-requires
unfolding sheet_lines
write_line-requires c = rw c.in-0.is at c.requires.1

pub write_line-requires-in-1 : goal.write_line-requires-in-1
unfolding sheet_lines
write_line-requires-in-1 c = rw c.in-1.is at c.requires.1

pub write_line-requires-in-2 : goal.write_line-requires-in-2
unfolding sheet_lines
write_line-requires-in-2 c = rw c.in-2.is at c.requires.1

-- the last arm
pub write_line-requires-in_default : goal.write_line-requires-in_default
unfolding sheet_lines
write_line-requires-in_default c = let e : c.args.line ≡ 3 = omega arith in rw e at c.requires.1

pub returns-in-0 : goal.returns-in-0
unfolding sheet_lines
returns-in-0 c = rw c.in-0.is c.write_line.ensures

pub returns-in-1 : goal.returns-in-1
unfolding sheet_lines
returns-in-1 c = rw c.in-1.is c.write_line-in-1.ensures

pub returns-in-2 : goal.returns-in-2
unfolding sheet_lines
returns-in-2 c = rw c.in-2.is c.write_line-in-2.ensures

pub returns-in_default : goal.returns-in_default
unfolding sheet_lines
returns-in_default c = let e : c.args.line ≡ 3 = omega arith in rw e c.write_line-in_default.ensures
