-- The C structs of the answers: docs/SCOPE.md [host-answers]. Assumes nothing.
use Rattle.std.specs.Prelude.{ℕ, Bool, true, false, Option, Some, None, Result, Ok, Err}
use Rattle.gregorian.specs.Calendar.{no_date, date_of}
use Rattle.schedule.specs.Schedule.{no_session}
use Rattle.error.specs.Errors.{error_number, error_date, error_count}
use Rattle.answers.specs.declared.OptionalDate.{OptionalDate}
use Rattle.answers.specs.declared.BoolAnswer.{BoolAnswer}
use Rattle.answers.specs.declared.neighbouring_days.TradingDayAnswer.{TradingDayAnswer}
use Rattle.answers.specs.declared.counts.CountAnswer.{CountAnswer}
use Rattle.answers.specs.declared.slices.SliceAnswer.{SliceAnswer}
use Rattle.answers.specs.declared.optional_dates.OptionalDateAnswer.{OptionalDateAnswer}
use Rattle.answers.specs.declared.trading_hours.TimeAnswer.{TimeAnswer}
use Rattle.answers.specs.declared.trading_hours.SessionAnswer.{SessionAnswer}
use Rattle.answers.specs.declared.trading_hours.HoursAnswer.{HoursAnswer}
use Rattle.answers.specs.Records.{hours_of, no_hours}
use Rattle.error.specs.declared.CalendarError.{CalendarError}
use Rattle.schedule.specs.declared.Session.{Session}
use Rattle.schedule.specs.declared.TradingHours.{TradingHours}
use Rattle.range_calls.specs.declared.TradingDay.{TradingDay}
use Rattle.orders.specs.declared.Slicing.{Slicing}
use Rattle.gregorian.specs.declared.Date.{Date}

-- A day is found with its date; of none every field is 0.
unfoldable pub optional_date : Option ℕ → OptionalDate
optional_date (Some n) = record { found = 1; date = date_of n }
optional_date None = record { found = 0; date = no_date }

-- yes is 1 and no is 0
unfoldable pub flag_of : Bool → ℕ
flag_of true = 1
flag_of false = 0

-- Without an error, yes or no; an error has its number and the date that is returned with it. Every other field is 0.
unfoldable pub bool_answer : Result Bool CalendarError → BoolAnswer
bool_answer (Ok b) = record { error = 0; value = flag_of b; date = no_date }
bool_answer (Err e) = record { error = error_number e; value = 0; date = error_date e }

-- Without an error, the day with its distance and its mark; an error has its number and the date that is returned with it, which none
-- of errors 8, 5 and 6 has. Every other field is 0.
unfoldable pub trading_day_answer : Result TradingDay CalendarError → TradingDayAnswer
trading_day_answer (Ok d) = record { error = 0; date = d.date; distance = d.distance; outside = flag_of d.outside }
trading_day_answer (Err e) = record { error = error_number e; date = error_date e; distance = 0; outside = 0 }

-- Without an error, the number; an error has its number, the number of entries that error 9 returns, and the date that error 1 does. Every
-- other field is 0.
unfoldable pub count_answer : Result ℕ CalendarError → CountAnswer
count_answer (Ok n) = record { error = 0; count = n; date = no_date }
count_answer (Err e) = record { error = error_number e; count = error_count e; date = error_date e }

-- The same for an order: without an error, over how many days, the shares of each, and the remainder.
unfoldable pub slice_answer : Result Slicing CalendarError → SliceAnswer
slice_answer (Ok s) = record { error = 0; count = s.count; per_day = s.per_day; remainder = s.remainder; date = no_date }
slice_answer (Err e) = record { error = error_number e; count = error_count e; per_day = 0; remainder = 0; date = error_date e }

-- Without an error, a day is found with its date, or none is; an error has its number and the date that error 1 returns. Every other
-- field is 0.
unfoldable pub optional_date_answer : Result (Option Date) CalendarError → OptionalDateAnswer
optional_date_answer (Ok (Some t)) = record { error = 0; found = 1; date = t }
optional_date_answer (Ok None) = record { error = 0; found = 0; date = no_date }
optional_date_answer (Err e) = record { error = error_number e; found = 0; date = error_date e }

-- Without an error, the value; an error has its number, and every other field is 0.
unfoldable pub time_answer : Result ℕ CalendarError → TimeAnswer
time_answer (Ok time) = record { error = 0; seconds = time }
time_answer (Err e) = record { error = error_number e; seconds = 0 }

unfoldable pub session_answer : Result Session CalendarError → SessionAnswer
session_answer (Ok s) = record { error = 0; session = s }
session_answer (Err e) = record { error = error_number e; session = no_session }

unfoldable pub hours_answer : Result TradingHours CalendarError → HoursAnswer
hours_answer (Ok hours) = record { error = 0; hours = hours_of hours }
hours_answer (Err e) = record { error = error_number e; hours = no_hours }
