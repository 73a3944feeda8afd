-- What the program prints: docs/SCOPE.md [sheet-program]. Assumes nothing.
use Rattle.std.specs.Prelude.{ℕ, ◌<◌, ◌≡◌, Result, Ok, Err, List, ◌++◌, length, take}
use Rattle.error.specs.declared.CalendarError.{CalendarError}
use Rattle.error.specs.Errors.{error_number}
use Rattle.decimal.specs.Decimal.{decimal}
use Rattle.request.specs.Text.{ascii}
use Rattle.sheet.specs.SheetCall.{sheet_of}

-- the line for an error
abbrev pub refused_line : ℕ → List ℕ
refused_line number = ascii "refused=" ++ (decimal number ++ ascii "\n")

-- the sheet, or the line with the number of its error
abbrev pub printed_result : Result (List ℕ) CalendarError → List ℕ
printed_result (Ok bytes) = bytes
printed_result (Err e) = refused_line (error_number e)

-- what is printed for the input
abbrev pub printed : List ℕ → List ℕ
printed input = printed_result (sheet_of input)

-- What was read of an input: its first bytes, as many as it has or the buffer holds, are the first n of the buffer.
abbrev pub ReadOf : List ℕ → List ℕ → ℕ → Type 0
ReadOf input buffer n = take n buffer ≡ take (length buffer) input

-- The claim that 49 bytes, or more, are enough to read: of an input that is longer they are refused, as the whole is.
abbrev pub FirstBytesDecide : Type 0
FirstBytesDecide = (room : ℕ) → 48 < room → (input : List ℕ) → printed (take room input) ≡ printed input
