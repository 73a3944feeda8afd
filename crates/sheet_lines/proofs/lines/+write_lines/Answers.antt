-- `sheet_lines::lines::write_lines` meets its contract: a line, and the lines after it in what is left of the buffer.
use Rattle.std.proofs.Common.{arith}
use Rattle.buffers.proofs.BufferLaws.{bytes_fit, rest-starts, more-fits, all-written}
use Rattle.sheet_lines.proofs.LineLaws.{sheet-from, sheet-last}
use Rattle.sheet_lines.proofs.lines.+write_lines.Goals as goal

-- the last line
pub write_days-requires : goal.write_days-requires
write_days-requires t c =
    let a = c.args in
    rw (sheet-last a.line a.sheet.now (omega arith)) at c.requires.1

pub returns-then-line-eq4 : goal.returns-then-line-eq4
returns-then-line-eq4 t c =
    let a = c.args in
    rw (sheet-last a.line a.sheet.now (omega arith)) c.write_days.ensures

-- a line before it
pub write_field-n-requires : goal.write_field-n-requires
write_field-n-requires t c =
    let a = c.args in
    (omega arith, bytes_fit _ _ _ _ (sheet-from a.line a.sheet.now (omega arith)) c.requires.1)

pub slice_bounds-write_lines-count : goal.slice_bounds-write_lines-count
slice_bounds-write_lines-count t c =
    let a = c.args in
    rest-starts _ _ _ _ (sheet-from a.line a.sheet.now (omega arith)) c.requires.1 _ _ c.write_field-n.ensures

pub slice_bounds-write_lines-start : goal.slice_bounds-write_lines-start
slice_bounds-write_lines-start t c = slice_bounds-write_lines-count t c

pub write_lines-requires : goal.write_lines-requires
write_lines-requires t c =
    let a = c.args in (
      omega (arith, c.decreases),
      (
        omega arith,
        more-fits _ _ _ _ (sheet-from a.line a.sheet.now (omega arith)) c.requires.1 _ _ c.write_field-n.ensures,
      ),
    )

pub returns : goal.returns
returns t c =
    let a = c.args in
    all-written _ _ _ _ (sheet-from a.line a.sheet.now (omega arith)) c.requires.1 _ _
    c.write_field-n.ensures _ _ c.write_lines.ensures

pub overflow_add-result : goal.overflow_add-result
overflow_add-result t c = omega (arith, (returns t c).0)
