-- The checks of the numbers that calls are given, in the order of docs/SCOPE.md [errors]: of each ladder of tests the first error that
-- applies decides. Assumes nothing.
use Rattle.std.specs.Prelude.{ℕ, Bool, cond, not, ◌&&◌, ◌||◌, List, ltb, leb, Result, Ok, Err}
use Rattle.gregorian.specs.declared.Date.{Date}
use Rattle.gregorian.specs.Calendar.{is_date, date, day_number, is_date_of, number}
use Rattle.markets.specs.Markets.{is_market}
use Rattle.markets.specs.Years.{min_year, max_year, is_supported}
use Rattle.buffers.specs.Buffers.{overwrite}
use Rattle.error.specs.Errors.{result_and_then}
use Rattle.error.specs.declared.CalendarError.{CalendarError}
use Rattle.error.specs.declared.CalendarError.TheVariants.{UnknownMarket, InvalidDate, TimeOutOfRange, DateOutOfRange, InvalidDateCalculation, BufferTooSmall}

-- [time]: a second of the day
unfoldable pub is_time : ℕ → Bool
is_time time = leb time 86399

-- ---- a day of a market

-- errors 8 and 5, or the day number
unfoldable pub checked_day : ℕ → ℕ → ℕ → ℕ → Result ℕ CalendarError
checked_day market year month day =
    cond (not (is_market market)) (Err UnknownMarket)
    (cond (not (is_date year month day)) (Err InvalidDate)
    (Ok (day_number year month day)))

-- errors 8, 5, 7 and 1, or the day number; `time_in_range` is true for a call that takes no time
unfoldable pub supported_day : ℕ → ℕ → ℕ → ℕ → Bool → Result ℕ CalendarError
supported_day market year month day time_in_range =
    result_and_then (checked_day market year month day)
    (λ n. cond (not time_in_range) (Err TimeOutOfRange)
    (cond (not (is_supported year)) (Err (DateOutOfRange (date year month day)))
    (Ok n)))

-- ---- a month of a market

-- a number from 1 to 12
unfoldable pub is_month : ℕ → Bool
is_month month = leb 1 month && leb month 12

-- [month-error-date]
unfoldable pub month_error_date : ℕ → ℕ → Date
month_error_date year month = cond (is_date year month 1) (date year month 1) (date 1970 1 1)

-- errors 8, 1 and 2
unfoldable pub checked_month : ℕ → ℕ → ℕ → Result (Unit {0}) CalendarError
checked_month market year month =
    cond (not (is_market market)) (Err UnknownMarket)
    (cond (not (is_supported year)) (Err (DateOutOfRange (month_error_date year month)))
    (cond (not (is_month month)) (Err InvalidDateCalculation)
    (Ok tt)))

-- ---- a range of dates

-- [count]: the rule of the years, by the start's and the end's
unfoldable pub leaves_years : ℕ → ℕ → Bool
leaves_years start_year end_year = ltb start_year min_year || ltb max_year end_year

-- [count]: errors 5 for the start, 5 for the end, and 1 with the start, or both day numbers. A market, or a set of
-- them, is checked before.
unfoldable pub checked_range : Date → Date → Result (ℕ × ℕ) CalendarError
checked_range start end =
    cond (not (is_date_of start)) (Err InvalidDate)
    (cond (not (is_date_of end)) (Err InvalidDate)
    (cond (leaves_years start.year end.year) (Err (DateOutOfRange start))
    (Ok (number start, number end))))

-- ---- a buffer for entries, be they bytes or numbers

-- how many entries are written: those needed, or error 9 with their number where there is less room
unfoldable pub checked_room : ℕ → ℕ → Result ℕ CalendarError
checked_room needed room = cond (ltb room needed) (Err (BufferTooSmall needed)) (Ok needed)

-- [error-writes-nothing]: what the buffer holds at the end. Without an error the entries are at its start, and the rest stays.
abbrev pub final_buffer : Result ℕ CalendarError → List ℕ → List ℕ → List ℕ
final_buffer (Ok n) entries buffer = overwrite entries buffer
final_buffer (Err e) entries buffer = buffer
