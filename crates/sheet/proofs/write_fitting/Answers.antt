-- `sheet::write_fitting` meets its contract: where the check of the room passed, the sheet fits.
use Rattle.std.proofs.Common.{sym, arith}
use Rattle.checks.proofs.CheckLaws.{room-checked}
use Rattle.sheet.proofs.write_fitting.Goals as goal

pub write_lines-requires : goal.write_lines-requires
write_lines-requires c = (omega arith, omega (arith, (room-checked _ _ _ (sym c.in_ok-n.ensures)).1))
