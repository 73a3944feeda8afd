-- `sheet::sheet_of_month` meets its contract.
use Rattle.std.proofs.Common.{refl, sym}
use Rattle.checks.proofs.CheckLaws.{month-checked}
use Rattle.sheet.proofs.SheetCallLaws.{sheet-written}
use Rattle.sheet.proofs.sheet_of_month.Goals as goal

pub month_days-count-requires : goal.month_days-count-requires
month_days-count-requires c = ((month-checked _ _ _ (sym c.in_ok-checked_month.ensures)).first-date, refl)

pub returns : goal.returns
returns c = sheet-written _ _ _ _ _ _ _ (sym c.in_ok-checked_month.ensures) c.month_days-count.ensures.0 c.write_fitting.ensures
