-- `trading_days::month_days` meets its contract: each turn of the loop is one day of the month.
use Rattle.std.proofs.Common.{◌+◌, ◌<◌, ◌++◌, take, ap, refl, sym, ◌∙◌, arith}
use Rattle.gregorian.specs.Calendar.{month_length}
use Rattle.gregorian.proofs.Laws.{number-range}
use Rattle.gregorian.proofs.DaySteps.{numbered}
use Rattle.markets.specs.Markets.{is_trading_day}
use Rattle.ranges.specs.Ranges.{trading_days}
use Rattle.trading_days.specs.Month.{month_list}
use Rattle.trading_days.proofs.MonthDayLaws.{in_month, length_high, day-of-month, day-kept, day-passed, days-done}
use Rattle.trading_days.proofs.month_days.Goals as goal
use Rattle.trading_days.proofs.month_days.Goals.{then-is_trading_day, else-is_trading_day}

pub overflow_sub-before : goal.overflow_sub-before
overflow_sub-before c = let a = c.args in omega (arith, c.day_number-before.ensures, number-range a.year a.month 1 c.requires.0)

pub loop-day-init : goal.loop-day-init
unfolding month_list
loop-day-init c = record { size = c.requires.1; below = omega arith; to = omega arith; left = refl }

pub overflow_add-number : goal.overflow_add-number
overflow_add-number c =
    let a = c.args in
    omega (arith, c.day_number-before.ensures, c.days_in_month-day-end.ensures, length_high a.year a.month, number-range a.year a.month 1 c.requires.0)

pub invariant_of-is_trading_day : goal.invariant_of-is_trading_day
invariant_of-is_trading_day c =
    let a = c.args in
    let day = day-of-month a.year a.month c.loop-day.day _ c.requires.0 c.day_number-before.ensures (omega arith) (omega (arith, c.days_in_month-day-end.ensures)) in
    let n = numbered a.year a.month c.loop-day.day _ day.0 day.1 in
    record { low = n.0; high = n.1; same = n.2 }

pub overflow_cast-days : goal.overflow_cast-days
overflow_cast-days c = omega (arith, c.days_in_month-day-end.ensures, length_high c.args.year c.args.month)

pub bounds-days-count : goal.bounds-days-count
bounds-days-count c = omega (arith, c.days_in_month-day-end.ensures, length_high c.args.year c.args.month, c.loop-day.invariant)

pub overflow_add-count : goal.overflow_add-count
overflow_add-count c = omega (arith, c.days_in_month-day-end.ensures, length_high c.args.year c.args.month, c.loop-day.invariant)

pub loop-day-preserved : goal.loop-day-preserved
loop-day-preserved c =
    let a = c.args in
    let s = c.loop-day in
    let i = s.invariant in
    let trades = in_month a.market a.year a.month in
    let last = month_length a.year a.month in
    let day = day-of-month a.year a.month s.day _ c.requires.0 c.day_number-before.ensures (omega arith) (omega (arith, c.days_in_month-day-end.ensures)) in
    let answer = ap (is_trading_day a.market) (sym day.1) ∙ sym c.is_trading_day.ensures in
    let all = i.left ∙ elim c.if-is_trading_day.branch [
      | then-is_trading_day w ↦
          day-kept trades s.days s.count s.day last (omega (arith, length_high a.year a.month)) (omega (arith, c.days_in_month-day-end.ensures)) (answer ∙ w.if-is_trading_day.true)
          ∙ sym (λ j. take (w.count-is j) (w.days-is j) ++ trading_days trades (s.day + 1) last)
      | else-is_trading_day w ↦
          day-passed trades s.days s.count s.day last (omega (arith, c.days_in_month-day-end.ensures)) (answer ∙ w.if-is_trading_day.false)
          ∙ sym (λ j. take (w.count-is j) (w.days-is j) ++ trading_days trades (s.day + 1) last)
    ] in
    let below : c.if-is_trading_day.count < s.day + 1 = elim c.if-is_trading_day.branch [
      | then-is_trading_day w ↦ omega (arith, w.count-is)
      | else-is_trading_day w ↦ omega (arith, w.count-is)
    ] in
    record { size = c.if-is_trading_day.auto.days ∙ i.size; below = below; to = omega (arith, c.days_in_month-day-end.ensures); left = all }

pub returns : goal.returns
returns c =
    let a = c.args in
    let s = c.loop-day in
    let i = s.invariant in
    let last = month_length a.year a.month in (
      sym (i.left ∙ days-done (in_month a.market a.year a.month) s.days s.count s.day last (omega (arith, c.days_in_month-day-end.ensures))),
      omega (arith, i.to, length_high a.year a.month),
    )

pub returns-after-is_trading_day : goal.returns-after-is_trading_day
returns-after-is_trading_day c =
    let a = c.args in
    let s = c.loop-day in
    let i = s.invariant in
    let trades = in_month a.market a.year a.month in
    let last = month_length a.year a.month in
    let day = day-of-month a.year a.month s.day _ c.requires.0 c.day_number-before.ensures (omega arith) (omega (arith, c.days_in_month-day-end.ensures)) in
    let answer = ap (is_trading_day a.market) (sym day.1) ∙ sym c.is_trading_day.ensures in
    let all = i.left ∙ elim c.if-is_trading_day.branch [
      | then-is_trading_day w ↦
          day-kept trades s.days s.count s.day last (omega (arith, length_high a.year a.month)) (omega (arith, c.days_in_month-day-end.ensures)) (answer ∙ w.if-is_trading_day.true)
          ∙ sym (λ j. take (w.count-is j) (w.days-is j) ++ trading_days trades (s.day + 1) last)
      | else-is_trading_day w ↦
          day-passed trades s.days s.count s.day last (omega (arith, c.days_in_month-day-end.ensures)) (answer ∙ w.if-is_trading_day.false)
          ∙ sym (λ j. take (w.count-is j) (w.days-is j) ++ trading_days trades (s.day + 1) last)
    ] in
    let below : c.if-is_trading_day.count < s.day + 1 = elim c.if-is_trading_day.branch [
      | then-is_trading_day w ↦ omega (arith, w.count-is)
      | else-is_trading_day w ↦ omega (arith, w.count-is)
    ] in (
      sym (all ∙ days-done trades c.if-is_trading_day.days c.if-is_trading_day.count (s.day + 1) last (omega (arith, c.days_in_month-day-end.ensures))),
      omega (arith, below, i.to, length_high a.year a.month, c.days_in_month-day-end.ensures),
    )
