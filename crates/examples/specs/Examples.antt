-- The dates of docs/SCOPE.md [examples] and [month-first] that are proved, in two tables. Assumes nothing.
use Rattle.std.specs.Prelude.{ℕ, ◌≡◌, List, [], ◌∷◌, ◌++◌, map, length}
use Rattle.gregorian.specs.declared.Date.{Date}
use Rattle.gregorian.specs.Calendar.{date}
use Rattle.utils.specs.Easter.{calculate_easter}
use Rattle.markets.specs.Markets.{holidays_by_code}
use Rattle.ranges.specs.Ranges.{days_from, Every}
use Rattle.calendar.specs.CalendarCalls.{is_trading_day_result, is_holiday_result}
use Rattle.range_calls.specs.RangeCalls.{next_trading_day_result, count_trading_days_result}
use Rattle.answers.specs.declared.OptionalDate.{OptionalDate}
use Rattle.answers.specs.declared.BoolAnswer.{BoolAnswer}
use Rattle.answers.specs.declared.neighbouring_days.TradingDayAnswer.{TradingDayAnswer}
use Rattle.answers.specs.declared.counts.CountAnswer.{CountAnswer}
use Rattle.answers.specs.Answers.{optional_date, bool_answer, trading_day_answer, count_answer}
use Rattle.answers.specs.Expected.{found_date, is_yes, is_no, found_day, counted, out_of_range}

-- A call on a market's code, or on a year, and dates; last its answer.
pub data Example : Type 0 where
  CalculateEaster : ℕ → OptionalDate → Example
  IsTradingDay : ℕ → Date → BoolAnswer → Example
  IsHoliday : ℕ → Date → BoolAnswer → Example
  NextTradingDay : ℕ → Date → TradingDayAnswer → Example
  CountTradingDays : ℕ → Date → Date → CountAnswer → Example

-- The answer is the one of the definition that the contract of the call cites.
abbrev pub Holds : Example → Type 0
Holds (CalculateEaster year answer) = optional_date (calculate_easter year) ≡ answer
Holds (IsTradingDay market t answer) = bool_answer (is_trading_day_result market t.year t.month t.day) ≡ answer
Holds (IsHoliday market t answer) = bool_answer (is_holiday_result market t.year t.month t.day) ≡ answer
Holds (NextTradingDay market t answer) = trading_day_answer (next_trading_day_result market t.year t.month t.day) ≡ answer
Holds (CountTradingDays market s t answer) =
    count_answer (count_trading_days_result market s.year s.month s.day t.year t.month t.day) ≡ answer

-- the codes of [markets]
abbrev pub nyse : ℕ
nyse = 0

abbrev pub lse : ℕ
lse = 2

abbrev pub tse : ℕ
tse = 3

abbrev pub tsx : ℕ
tsx = 4

-- the numbers from 0 on, as many as there are markets
abbrev pub codes : List ℕ
codes = days_from 0 (length holidays_by_code)

-- a row that names no market, for each of them
abbrev pub for_each_market : (ℕ → Example) → List Example
for_each_market row = map row codes

-- the rows of [examples], in its order
abbrev pub examples : List Example
examples =
    CalculateEaster 2024 (found_date (date 2024 3 31))
    ∷ CalculateEaster 1818 (found_date (date 1818 3 22))
    ∷ CalculateEaster 1943 (found_date (date 1943 4 25))
    ∷ NextTradingDay tse (date 2022 4 28) (found_day (date 2022 5 9) 11 0)
    ∷ IsTradingDay tse (date 2020 5 6) is_yes
    ∷ IsHoliday tse (date 2021 1 4) is_yes
    ∷ IsTradingDay tsx (date 2022 12 27) is_yes
    ∷ IsHoliday nyse (date 2022 1 3) is_yes
    ∷ IsHoliday lse (date 2021 12 28) is_yes
    ∷ IsTradingDay lse (date 2021 12 28) is_no
    ∷ IsTradingDay lse (date 2021 12 29) is_yes
    ∷ CountTradingDays nyse (date 2025 1 1) (date 2025 1 31) (counted 21)
    ∷ for_each_market (λ market. CountTradingDays market (date 2031 1 1) (date 2030 12 31) (counted 0))
    ++ for_each_market (λ market. CountTradingDays market (date 2031 1 1) (date 2031 1 1) (out_of_range (date 2031 1 1)))

-- [month-first]: LSE's Easter Monday of 2024 is in April, its Good Friday in March
abbrev pub month_first_examples : List Example
month_first_examples =
    IsHoliday lse (date 2024 3 29) is_yes
    ∷ IsHoliday lse (date 2024 4 1) is_yes
    ∷ IsTradingDay lse (date 2024 4 1) is_no
    ∷ []

-- every row of the two tables holds
abbrev pub ExamplesHold : Type 0
ExamplesHold = Every Holds (examples ++ month_first_examples)
