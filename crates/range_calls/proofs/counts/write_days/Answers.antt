-- `range_calls::counts::write_days` meets its contract: the list of the month fits in the buffer.
use Rattle.std.proofs.Common.{length, sym, ap, arith}
use Rattle.trading_days.proofs.MonthDayLaws.{listed, count-is}
use Rattle.checks.proofs.CheckLaws.{room-checked}
use Rattle.range_calls.proofs.counts.write_days.Goals as goal

pub write-requires : goal.write-requires
write-requires c =
    let m = c.month_days-count in
    let days-are = listed _ _ _ m.result m.new.days (omega arith) m.ensures in
    grind (arith, ap length days-are, count-is _ _ _ m.result m.new.days (omega arith) m.ensures, (room-checked _ _ _ (sym c.in_ok-n.ensures)).1)
