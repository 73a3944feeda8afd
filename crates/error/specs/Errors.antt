-- The errors by number, and what is returned with them: docs/SCOPE.md [errors], [reading-nothing]. Assumes nothing.
use Rattle.std.specs.Prelude.{ℕ, Result, Ok, Err}
use Rattle.gregorian.specs.declared.Date.{Date}
use Rattle.gregorian.specs.Calendar.{no_date}
use Rattle.error.specs.declared.ErrorFields.{ErrorFields}
use Rattle.error.specs.declared.CalendarError.{CalendarError}
use Rattle.error.specs.declared.CalendarError.TheVariants.{MalformedText, UnknownMarket, InvalidMarketSet, InvalidDate, TimeOutOfRange, DateOutOfRange, InvalidDateCalculation, NoTradingDayFound, NoTradingDayInRange, BufferTooSmall, InvalidSession, InvalidTime}

-- an error with which nothing is returned
abbrev pub only_number : ℕ → ErrorFields
only_number n = record { number = n; count = 0; date = no_date }

-- The number of each error, the number of entries that is returned with error 9 and the date with error 1. InvalidDateCalculation is the
-- error of a month that is none, and InvalidTime that of an early close that is not before the regular end, as in the Rust.
unfoldable pub error_fields : CalendarError → ErrorFields
error_fields MalformedText = only_number 10
error_fields UnknownMarket = only_number 8
error_fields InvalidMarketSet = only_number 12
error_fields InvalidDate = only_number 5
error_fields TimeOutOfRange = only_number 7
error_fields (DateOutOfRange t) = record { number = 1; count = 0; date = t }
error_fields InvalidDateCalculation = only_number 2
error_fields NoTradingDayFound = only_number 6
error_fields NoTradingDayInRange = only_number 11
error_fields (BufferTooSmall needed) = record { number = 9; count = needed; date = no_date }
error_fields InvalidSession = only_number 3
error_fields InvalidTime = only_number 4

abbrev pub error_number : CalendarError → ℕ
error_number e = (error_fields e).number

abbrev pub error_count : CalendarError → ℕ
error_count e = (error_fields e).count

abbrev pub error_date : CalendarError → Date
error_date e = (error_fields e).date

-- the Rust's `?`, and what follows it: an error is handed on
abbrev pub result_and_then : {T U : Type 0} → Result T CalendarError → (T → Result U CalendarError) → Result U CalendarError
result_and_then (Ok x) rest = rest x
result_and_then (Err e) rest = Err e
