-- `sheet_lines::lines::write_numbers` meets its contract: the first number, and the others in what is left of the buffer.
use Rattle.std.proofs.Common.{◌++◌, arith}
use Rattle.buffers.proofs.BufferLaws.{rest-length, bytes_fit, rest-starts, more-fits, all-written}
use Rattle.decimal.specs.Decimal.{decimal}
use Rattle.request.specs.Text.{ascii}
use Rattle.sheet_lines.proofs.LineLaws.{numbers_line, others, numbers-none, numbers-one, numbers_more}
use Rattle.sheet_lines.proofs.lines.+write_numbers.Goals as goal

-- no number
pub returns-in-empty : goal.returns-in-empty
returns-in-empty t c = rw (numbers-none c.args.numbers.now (omega arith)) c.write.ensures

-- one
pub write_number-requires : goal.write_number-requires
write_number-requires t c = rw (numbers-one c.args.numbers.now _ c.from.ensures (omega arith)) at c.requires

pub returns-in-len1 : goal.returns-in-len1
returns-in-len1 t c = rw (numbers-one c.args.numbers.now _ c.from.ensures (omega arith)) c.write_number.ensures

-- more: the first with its comma, and then the rest
pub write_number-n-requires : goal.write_number-n-requires
write_number-n-requires t c =
    let numbers = c.args.numbers.now in
    bytes_fit (decimal c.from-in-len1-up.result ++ ascii ",") (numbers_line (others numbers)) _ c.args.out.now
    (numbers_more numbers _ c.from-in-len1-up.ensures (omega arith)) c.requires

pub slice_bounds-write_numbers-count : goal.slice_bounds-write_numbers-count
slice_bounds-write_numbers-count t c =
    rest-starts _ _ _ _ (numbers_more c.args.numbers.now _ c.from-in-len1-up.ensures (omega arith)) c.requires _ _ c.write_number-n.ensures

pub slice_bounds-write_numbers-start : goal.slice_bounds-write_numbers-start
slice_bounds-write_numbers-start t c = slice_bounds-write_numbers-count t c

pub write_numbers-requires : goal.write_numbers-requires
write_numbers-requires t c =
    let numbers = c.args.numbers.now in (
      omega (arith, c.decreases, rest-length numbers 1),
      more-fits _ _ _ _ (numbers_more numbers _ c.from-in-len1-up.ensures (omega arith)) c.requires _ _ c.write_number-n.ensures,
    )

pub returns-in-len1-up : goal.returns-in-len1-up
returns-in-len1-up t c =
    all-written _ _ _ _ (numbers_more c.args.numbers.now _ c.from-in-len1-up.ensures (omega arith)) c.requires _ _
    c.write_number-n.ensures _ _ c.write_numbers.ensures

pub overflow_add-result : goal.overflow_add-result
overflow_add-result t c = omega (arith, (returns-in-len1-up t c).0)
