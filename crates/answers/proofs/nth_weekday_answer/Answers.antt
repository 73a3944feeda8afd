-- `answers::nth_weekday_answer` meets its contract: a day of the month is the date of its number.
use Rattle.std.proofs.Common.{Some, ◌≡◌, ◌∙◌, refl, ap}
use Rattle.gregorian.specs.declared.Date.{Date}
use Rattle.gregorian.proofs.Laws.{is-date, by_number}
use Rattle.utils.specs.declared.NthWeekday.{NthWeekday}
use Rattle.answers.specs.declared.OptionalDate.{OptionalDate}
use Rattle.answers.specs.Answers.{optional_date}
use Rattle.answers.proofs.nth_weekday_answer.Goals as goal

abbrev dated : Date → OptionalDate
dated t = record { found = 1; date = t }

pub returns-in-Some-InMonth : goal.returns-in-Some-InMonth
unfolding optional_date
returns-in-Some-InMonth c =
    let i = c.in-Some-InMonth in
    let in-month : i.field-0 ≡ NthWeekday.InMonth i.day = rw i.is at i.field-0-is in
    let answered = i.is ∙ ap Some in-month in
    let d = is-date _ _ _ (rw answered at c.requires) in
    rw answered (ap dated (by_number _ _ _ _ d.exists refl))
