-- `market_sets::common_trading_day` meets its contract: error 12, the first common day past the check of the dates, and its error stays.
use Rattle.std.proofs.Common.{ℕ, ap, ap₂, Ok, sym, ◌∙◌, arith, Option, Result, option_map}
use Rattle.ranges.specs.Ranges.{days, find}
use Rattle.checks.proofs.CheckLaws.{check-passed, check-failed}
use Rattle.error.proofs.ErrorLaws.{past-ok, past-error}
use Rattle.market_sets.specs.MarketSets.{is_common_trading_day, found_on}
use Rattle.market_sets.proofs.SetLaws.{set-passes, no-set}
use Rattle.std.proofs.lemmas.Result.{err_from_is_err_and}
use Rattle.gregorian.specs.Calendar.{date_of}
use Rattle.market_sets.proofs.common_trading_day.Goals as goal
use Rattle.error.specs.declared.CalendarError.{CalendarError}
use Rattle.gregorian.specs.declared.Date.{Date}

pub returns-then-not-is_set : goal.returns-then-not-is_set
returns-then-not-is_set c = past-error _ _ _ (sym (no-set _ _ _ (sym c.is_market_set-is_set.ensures ∙ c.if-not-is_set.true)))

pub new-first-requires : goal.new-first-requires
new-first-requires c = (check-passed _ _ c.in_ok-checked_range.ensures).1.start-date

pub day_number-last-requires : goal.day_number-last-requires
day_number-last-requires c = (check-passed _ _ c.in_ok-checked_range.ensures).1.end-date

pub first_common_day-requires : goal.first_common_day-requires
first_common_day-requires c = omega (arith, c.day_number-last.ensures, (check-passed _ _ c.in_ok-checked_range.ensures).1.in-years)

pub returns : goal.returns
returns c =
    let set = sym c.is_market_set-is_set.ensures ∙ c.if-not-is_set.false in
    let found : ℕ → ℕ → Result (Option Date) CalendarError = λ a b. found_on (find (is_common_trading_day c.args.markets) (days a b)) in
    past-ok _ _ _ _ (sym (set-passes _ _ _ set ∙ (check-passed _ _ c.in_ok-checked_range.ensures).0))
    (ap Ok (c.date_of_found.ensures ∙ ap (option_map date_of) c.first_common_day.ensures) ∙ ap₂ found c.new-first.ensures c.day_number-last.ensures)

pub returns-in_err-checked_range : goal.returns-in_err-checked_range
returns-in_err-checked_range c =
    let set = sym c.is_market_set-is_set.ensures ∙ c.if-not-is_set.false in
    let p = err_from_is_err_and c.from_residual.result c.from_residual.ensures.1 in
    rw (p.1, p.2) (past-error _ _ _ (check-failed _ _ _ c.in_err-checked_range.ensures ∙ sym (set-passes _ _ _ set)))
