-- `range_calls::counts::count_trading_days` meets its contract: error 8, the count past the check of the dates, and its error stays.
use Rattle.std.proofs.Common.{ℕ, ◌≡◌, true, ap, ap₂, sym, ◌∙◌, arith, Ok}
use Rattle.gregorian.proofs.DaySteps.{numbered}
use Rattle.markets.specs.Markets.{is_market, is_trading_day}
use Rattle.ranges.specs.Ranges.{count_trading_days}
use Rattle.error.proofs.ErrorLaws.{past-ok}
use Rattle.checks.proofs.CheckLaws.{check-passed}
use Rattle.range_calls.proofs.counts.count_trading_days.Goals as goal

pub day_number-first-requires : goal.day_number-first-requires
day_number-first-requires c = (check-passed _ _ c.in_ok-checked_range.ensures).1.start-date

pub day_number-last-requires : goal.day_number-last-requires
day_number-last-requires c = (check-passed _ _ c.in_ok-checked_range.ensures).1.end-date

pub count-requires : goal.count-requires
count-requires c =
    let range = (check-passed _ _ c.in_ok-checked_range.ensures).1 in
    let n = numbered _ _ _ _ range.start-date c.day_number-first.ensures in
    (n.0, n.2, omega (arith, c.day_number-last.ensures, range.in-years))

pub returns : goal.returns
returns c =
    let known : is_market c.args.market ≡ true = cc in
    let counted : ℕ → ℕ → ℕ = count_trading_days (is_trading_day c.args.market) in
    simp known
    (past-ok _ _ _ _ (sym (check-passed _ _ c.in_ok-checked_range.ensures).0)
    (ap Ok (c.count.ensures ∙ ap₂ counted c.day_number-first.ensures c.day_number-last.ensures)))
