-- `sheet_lines::length::numbers_length` meets its contract: the digits of all numbers, and a byte after each.
use Rattle.std.proofs.Common.{◌∙◌, ℕ, ap, arith}
use Prim.Native.Nat.{max}
use lib.Seq.{take_all}
use Rattle.std.specs.List.{sum_by}
use Rattle.sheet_lines.proofs.LineLaws.{with_end, numbers-length}
use Rattle.sheet_lines.proofs.length.numbers_length.Goals as goal

pub returns : goal.returns
returns c =
    let numbers = c.args.numbers.now in
    let all = c.loop-number.invariant.0 ∙ ap (sum_by with_end) (take_all c.loop-number.number-index numbers (omega arith)) in
    (c.max.ensures ∙ ap (λ (n : ℕ). max n 1) all ∙ numbers-length numbers, omega arith)
