-- The call for a month sheet: docs/SCOPE.md [sheet-return], [errors]. Assumes nothing.
use Rattle.std.specs.Prelude.{ℕ, List, length, Option, Some, None, Result, Ok, Err}
use Rattle.error.specs.declared.CalendarError.{CalendarError}
use Rattle.error.specs.declared.CalendarError.TheVariants.{MalformedText}
use Rattle.checks.specs.Checks.{checked_month, checked_room, final_buffer}
use Rattle.error.specs.Errors.{result_and_then}
use Rattle.request.specs.declared.Request.{Request}
use Rattle.request.specs.Request.{read_request}
use Rattle.sheet_lines.specs.Sheet.{month_sheet}

-- the sheet of a month, or the first of errors 8, 1 and 2 that applies
unfoldable pub sheet_of_month : ℕ → ℕ → ℕ → Result (List ℕ) CalendarError
sheet_of_month market year month = result_and_then (checked_month market year month) (λ _. Ok (month_sheet market year month))

-- the sheet that is asked for; error 10 where the text asks for none
abbrev pub sheet_of_request : Option Request → Result (List ℕ) CalendarError
sheet_of_request (Some r) = sheet_of_month r.market r.year r.month
sheet_of_request None = Err MalformedText

-- the same from the text
abbrev pub sheet_of : List ℕ → Result (List ℕ) CalendarError
sheet_of text = sheet_of_request (read_request text)

-- how many bytes are written into the buffer; error 9 where they do not fit
abbrev pub sheet_written : Result (List ℕ) CalendarError → List ℕ → Result ℕ CalendarError
sheet_written (Ok bytes) buffer = checked_room (length bytes) (length buffer)
sheet_written (Err e) buffer = Err e

-- what the buffer holds at the end
abbrev pub sheet_buffer : Result (List ℕ) CalendarError → List ℕ → List ℕ
sheet_buffer (Ok bytes) buffer = final_buffer (checked_room (length bytes) (length buffer)) bytes buffer
sheet_buffer (Err e) buffer = buffer

-- month_sheet: errors 10, 8, 1, 2 and 9
abbrev pub month_sheet_result : List ℕ → List ℕ → Result ℕ CalendarError
month_sheet_result text = sheet_written (sheet_of text)

-- and what the buffer holds at the end
abbrev pub month_sheet_buffer : List ℕ → List ℕ → List ℕ
month_sheet_buffer text = sheet_buffer (sheet_of text)
