-- Inner: no exported contract and no claim rests on these. A check of a range without its day numbers. Assumes nothing.
use Rattle.std.specs.Prelude.{Result, Ok, Err, ℕ}
use Rattle.error.specs.declared.CalendarError.{CalendarError}

abbrev pub check_of : Result (ℕ × ℕ) CalendarError → Result (Unit {0}) CalendarError
check_of (Ok (start, end)) = Ok tt
check_of (Err e) = Err e
