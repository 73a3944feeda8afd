-- `utils::find_nth_weekday` meets its contract: none without a month or a weekday, and else the answer of its sign.
use mathlib.Core.Path.{sym, ◌∙◌}
use borrow.Author.Tests.{lt-leb}
use Rattle.utils.proofs.WeekdayLaws.{not-asked}
use Rattle.utils.proofs.find_nth_weekday.Goals as goal

pub returns-then-not-is_date : goal.returns-then-not-is_date
returns-then-not-is_date c =
    let a = c.args in
    (sym (not-asked a.year a.month a.weekday a.nth (simp (sym c.is_date.ensures ∙ c.if-not-is_date.true))), tt)

pub returns-then-weekday-gt6 : goal.returns-then-weekday-gt6
returns-then-weekday-gt6 c =
    let a = c.args in
    (sym (not-asked a.year a.month a.weekday a.nth (simp (sym c.is_date.ensures ∙ c.if-not-is_date.false, lt-leb _ _ c.if-weekday-gt6.true))), tt)
