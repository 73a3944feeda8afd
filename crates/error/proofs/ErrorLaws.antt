-- The numbers of the errors, and what follows `?`.
-- Assumes nothing.
use Rattle.std.proofs.Common.{Result, Ok, Err}
use Prim.Native.Nat.{◌≤◌}
use mathlib.Core.Path.{◌≡◌, ap, ◌∙◌}
use native.Mathlib.Omega.{arith}
use Rattle.error.specs.declared.CalendarError.{CalendarError}
use Rattle.error.specs.declared.CalendarError.TheVariants.{MalformedText, UnknownMarket, InvalidMarketSet, InvalidDate, TimeOutOfRange, DateOutOfRange}
use Rattle.error.specs.declared.CalendarError.TheVariants.{InvalidDateCalculation, NoTradingDayFound, NoTradingDayInRange, BufferTooSmall, InvalidSession, InvalidTime}
use Rattle.error.specs.Errors.{error_fields, error_number, result_and_then}

-- the number of an error, which is never that of none
pub error-number : (e : CalendarError) → (1 ≤ error_number e) × (error_number e ≤ 12)
unfolding error_fields
error-number MalformedText = omega arith
error-number UnknownMarket = omega arith
error-number InvalidMarketSet = omega arith
error-number InvalidDate = omega arith
error-number TimeOutOfRange = omega arith
error-number (DateOutOfRange t) = omega arith
error-number InvalidDateCalculation = omega arith
error-number NoTradingDayFound = omega arith
error-number NoTradingDayInRange = omega arith
error-number (BufferTooSmall needed) = omega arith
error-number InvalidSession = omega arith
error-number InvalidTime = omega arith

-- past a check, and after its error
module _ {T U : Type 0} (rest : T → Result U CalendarError) (r : Result T CalendarError) where
  pub past-ok : (x : T) (a : Result U CalendarError) → Ok x ≡ r → a ≡ rest x → a ≡ result_and_then r rest
  past-ok x a q e = e ∙ ap (λ (c : Result T CalendarError). result_and_then c rest) q

  pub past-error : (e : CalendarError) → Err e ≡ r → Err e ≡ result_and_then r rest
  past-error e q = ap (λ (c : Result T CalendarError). result_and_then c rest) q
