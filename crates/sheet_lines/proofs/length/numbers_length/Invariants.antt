-- `sheet_lines::length::numbers_length`: the digits of the numbers so far, and a byte after each.
use Rattle.std.proofs.Common.{◌≡◌, ◌≤◌, ◌*◌, take}
use Rattle.std.specs.List.{sum_by}
use Rattle.sheet_lines.proofs.LineLaws.{with_end}
use Rattle.sheet_lines.proofs.length.numbers_length.Given as goal

abbrev pub invariant-loop-number : goal.invariant-loop-number
invariant-loop-number l = (l.n ≡ sum_by with_end (take l.number-index l.numbers)) × (l.n ≤ 11 * l.number-index)
