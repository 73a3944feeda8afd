-- `sheet_lines::lines::write_days` meets its contract: the name, and the numbers in what is left of the buffer.
use Rattle.std.proofs.Common.{refl}
use Rattle.buffers.proofs.BufferLaws.{all-written}
use Rattle.request.specs.Text.{ascii}
use Rattle.sheet_lines.proofs.LineLaws.{numbers_line}
use Rattle.sheet_lines.proofs.lines.write_days.Goals as goal

pub returns : goal.returns
returns c =
    all-written (ascii "days=") (numbers_line c.args.days.now) _ _ refl c.requires _ _ c.write-n.ensures _ _ c.write_numbers.ensures
