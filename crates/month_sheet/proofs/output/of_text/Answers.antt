-- `month_sheet::output::of_text`: the sheet as the call writes it, or the line with the number of its error. Every sheet fits.
use Rattle.std.proofs.Common.{rules}
use native.Mathlib.Omega.{arith}
use Rattle.month_sheet.proofs.PrintLaws.{sheet-printed, line-fits, line-printed}
use Rattle.month_sheet.proofs.output.of_text.Goals as goal

pub returns-then-answer-eq0 : goal.returns-then-answer-eq0
returns-then-answer-eq0 c = sheet-printed c.args.text.now c.args.out.now (search rules) _ _ c.tc_month_sheet-answer.ensures (omega arith)

pub write_line-requires : goal.write_line-requires
write_line-requires c = line-fits c.args.text.now c.args.out.now (search rules) _ _ c.tc_month_sheet-answer.ensures (omega arith)

pub returns : goal.returns
returns c =
    line-printed c.args.text.now c.args.out.now (search rules) _ _ c.tc_month_sheet-answer.ensures (omega arith) _ _ c.write_line.ensures
