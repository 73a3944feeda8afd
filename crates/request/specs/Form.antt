-- The claim that the reader accepts exactly the texts of the form: docs/SCOPE.md [sheet-input]. Assumes nothing.
use Rattle.std.specs.Prelude.{Some, None, ℕ, ◌<◌, ◌≡◌, List, length}
use Rattle.decimal.specs.Decimal.{value_of}
use Rattle.request.specs.Request.{DigitString, request_text, read_request}

-- The text is of the form, with three digit strings whose values are the market, the year and the month.
pub record HasForm (text : List ℕ) (market year month : ℕ) : Type 0 where
  pub market-digits : List ℕ
  pub year-digits : List ℕ
  pub month-digits : List ℕ
  pub market-is : DigitString market-digits × (market ≡ value_of market-digits)
  pub year-is : DigitString year-digits × (year ≡ value_of year-digits)
  pub month-is : DigitString month-digits × (month ≡ value_of month-digits)
  pub text-is : text ≡ request_text market-digits year-digits month-digits

pub record ReadsTheForm : Type 0 where
  -- each text of the form is accepted, and read as the values of its digit strings
  pub accepts : (market year month : List ℕ) → DigitString market → DigitString year → DigitString month
      → read_request (request_text market year month) ≡ Some (record { market = value_of market; year = value_of year; month = value_of month })
  -- what is accepted is of the form
  pub only : (text : List ℕ) (market year month : ℕ) → read_request text ≡ Some (record { market = market; year = year; month = month }) → HasForm text market year month
  -- a text of any other form is malformed
  pub malformed : (text : List ℕ) → ((market year month : ℕ) → HasForm text market year month → ⊥) → read_request text ≡ None
  -- and so is one of more than 48 bytes: the longest of the form has three numbers of nine digits
  pub too_long : (text : List ℕ) → 48 < length text → read_request text ≡ None
