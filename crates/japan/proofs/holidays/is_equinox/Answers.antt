-- `japan::holidays::is_equinox` meets its contract: before 2020, after 2030, and between them the day of the table.
use native.Mathlib.Omega.{arith}
use borrow.Author.Tests.{lt-leb, le-leb}
use Rattle.japan.specs.Japan.{equinox}
use Rattle.japan.proofs.JapanLaws.{equinox-day}
use Rattle.japan.proofs.holidays.is_equinox.Goals as goal

pub returns-then-year-lt2020 : goal.returns-then-year-lt2020
unfolding equinox
returns-then-year-lt2020 c = simp (lt-leb 2020 c.args.day.date.year (omega arith))

pub returns-then-year-gt2030 : goal.returns-then-year-gt2030
unfolding equinox
returns-then-year-gt2030 c = let year = c.args.day.date.year in simp (le-leb 2020 year (omega arith), lt-leb year 2030 (omega arith))

pub is_fixed_holiday-requires : goal.is_fixed_holiday-requires
is_fixed_holiday-requires c =
    (c.requires.0, equinox-day c.args.days _ c.if-year-lt2020.false c.if-year-gt2030.false c.requires.1)

pub returns : goal.returns
unfolding equinox
returns c =
    let year = c.args.day.date.year in
    simp (le-leb 2020 year (omega arith), le-leb year 2030 (omega arith)) c.is_fixed_holiday.ensures
