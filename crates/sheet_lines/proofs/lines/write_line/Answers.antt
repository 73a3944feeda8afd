-- `sheet_lines::lines::write_line` meets its contract: the name, and the number in what is left of the buffer.
use Rattle.std.proofs.Common.{◌++◌, refl}
use Rattle.buffers.proofs.BufferLaws.{all-written}
use Rattle.decimal.specs.Decimal.{decimal}
use Rattle.request.specs.Text.{ascii}
use Rattle.sheet_lines.proofs.lines.write_line.Goals as goal

pub returns : goal.returns
returns c =
    all-written c.args.name.now (decimal c.args.number ++ ascii "\n") _ _ refl c.requires _ _ c.write-n.ensures _ _ c.write_number.ensures
