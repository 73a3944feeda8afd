-- What the call for a day common to several markets may return: docs/SCOPE.md [common-day]. Assumes nothing.
use Rattle.std.specs.Prelude.{ℕ, ◌≡◌, Option, Result, Ok, Err}
use Rattle.gregorian.specs.declared.Date.{Date}
use Rattle.ranges.specs.Ranges.{SomeTradingDay}
use Rattle.market_sets.specs.MarketSets.{is_common_trading_day, checked_set_range, found_on}
use Rattle.answers.specs.declared.optional_dates.OptionalDateAnswer.{OptionalDateAnswer}
use Rattle.answers.specs.Answers.{optional_date_answer}
use Rattle.error.specs.declared.CalendarError.{CalendarError}

-- By what the checks came to: the error; or, for the days from a to b, some day on which every market of the set trades, or none
-- exactly if there is no such day. Which of several it is, and nothing else, is left free.
abbrev pub CommonDayPast : ℕ → Result (ℕ × ℕ) CalendarError → OptionalDateAnswer → Type 0
CommonDayPast markets (Err e) r = r ≡ optional_date_answer (Err e)
CommonDayPast markets (Ok (a, b)) r =
    (day : Option ℕ) × SomeTradingDay (is_common_trading_day markets) a b day × (r ≡ optional_date_answer (found_on day))

-- [common-day]: `r` is a right answer for the set and the range from the start to the end.
abbrev pub CommonTradingDay : ℕ → Date → Date → OptionalDateAnswer → Type 0
CommonTradingDay markets start end r = CommonDayPast markets (checked_set_range markets start end) r
