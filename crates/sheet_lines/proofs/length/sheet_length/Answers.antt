-- `sheet_lines::length::sheet_length` meets its contract: the sum over the five lines.
use Rattle.std.proofs.Common.{arith}
use Rattle.sheet_lines.proofs.LineLaws.{sheet-lengths}
use Rattle.sheet_lines.proofs.length.sheet_length.Goals as goal

pub returns : goal.returns
returns c =
    let s = c.args.sheet.now in
    (omega (arith, sheet-lengths s.request.market s.request.year s.request.month s.days.now), omega arith)
