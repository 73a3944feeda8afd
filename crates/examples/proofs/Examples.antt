-- Every row of the two tables holds. One test of all rows is computed, and a lemma turns it into the facts.
-- Assumes nothing.
use Rattle.std.proofs.Common.{Result, Ok, Err}
use Prim.Native.Nat.{ℕ}
use mathlib.Core.Path.{◌≡◌, refl, ap, ◌∙◌}
use mathlib.Core.Bool.{Bool, true, cond, not}
use mathlib.Core.List.{List, [], ◌∷◌, ◌++◌, map}
use Rattle.gregorian.specs.declared.Date.{Date}
use Rattle.utils.specs.Easter.{calculate_easter}
use Rattle.markets.specs.Markets.{is_market}
use Rattle.markets.specs.Years.{is_supported, last_day_of}
use Rattle.ranges.specs.Ranges.{days_from, Every, count_from, count_trading_days}
use Rattle.error.specs.declared.CalendarError.TheVariants.{UnknownMarket}
use Rattle.error.specs.Errors.{error_fields}
use Rattle.checks.specs.Checks.{checked_day, supported_day, leaves_years, checked_range}
use Rattle.error.specs.Errors.{result_and_then}
use Rattle.range_calls.specs.RangeCalls.{distance_of}
use Rattle.answers.specs.declared.BoolAnswer.{BoolAnswer}
use Rattle.answers.specs.declared.neighbouring_days.TradingDayAnswer.{TradingDayAnswer}
use Rattle.answers.specs.declared.counts.CountAnswer.{CountAnswer}
use Rattle.answers.specs.Answers.{flag_of, bool_answer, trading_day_answer, count_answer}
use Rattle.examples.specs.Examples.{Example, CalculateEaster, IsTradingDay, IsHoliday, NextTradingDay, CountTradingDays, Holds, examples, month_first_examples, ExamplesHold}
use Rattle.examples.proofs.ClosedRules.{holiday_rule, trading_rule, closed_optional, closed_next_result}
use Rattle.error.specs.declared.CalendarError.{CalendarError}
use Rattle.range_calls.specs.declared.TradingDay.{TradingDay}

-- ---- the answers, by any rule in the place of the market's

abbrev bool_by : ℕ → Date → (ℕ → Bool) → BoolAnswer
bool_by market t rule =
    bool_answer (result_and_then (supported_day market t.year t.month t.day true) (λ n. Ok (rule n)))

abbrev next_by : ℕ → Date → (ℕ → Result TradingDay CalendarError) → TradingDayAnswer
next_by market t next = trading_day_answer (result_and_then (checked_day market t.year t.month t.day) next)

abbrev count_by : ℕ → Date → Date → (ℕ → Bool) → CountAnswer
count_by market s t trades =
    count_answer
    (cond (not (is_market market)) (Err UnknownMarket)
    (result_and_then (checked_range s t) (λ (start, end). Ok (count_trading_days trades start end))))

-- ---- the test

-- the row with the answer that is computed, by the rule of the year that it is about
computed : Example → Example
computed (CalculateEaster year a) = CalculateEaster year (closed_optional a.date (calculate_easter year)).0
computed (IsTradingDay market t a) = IsTradingDay market t (bool_by market t (trading_rule market t.year).0)
computed (IsHoliday market t a) = IsHoliday market t (bool_by market t (holiday_rule market t.year).0)
computed (NextTradingDay market t a) = NextTradingDay market t (next_by market t (λ n. (closed_next_result market t.year a.date n).0))
computed (CountTradingDays market s t a) = CountTradingDays market s t (count_by market s t (trading_rule market s.year).0)

-- Where that is the row itself, the row holds.
holds : (e : Example) → computed e ≡ e → Holds e
unfolding computed
holds (CalculateEaster year a) q = (closed_optional a.date (calculate_easter year)).1 ∙ cc
holds (IsTradingDay market t a) q = ap (bool_by market t) (trading_rule market t.year).1 ∙ cc
holds (IsHoliday market t a) q = ap (bool_by market t) (holiday_rule market t.year).1 ∙ cc
holds (NextTradingDay market t a) q = ap (next_by market t) (λ j n. (closed_next_result market t.year a.date n).1 j) ∙ cc
holds (CountTradingDays market s t a) q = ap (count_by market s t) (trading_rule market s.year).1 ∙ cc

all_hold : (rows : List Example) → map computed rows ≡ rows → Every Holds rows
all_hold [] q = tt
all_hold (e ∷ rows) q = (holds e cc, all_hold rows cc)

all-computed : map computed (examples ++ month_first_examples) ≡ examples ++ month_first_examples
unfolding days_from computed holiday_rule trading_rule closed_optional closed_next_result count_from distance_of is_market is_supported last_day_of checked_day supported_day leaves_years checked_range flag_of bool_answer trading_day_answer count_answer error_fields
all-computed = refl

pub examples-hold : ExamplesHold
examples-hold = all_hold (examples ++ month_first_examples) all-computed
