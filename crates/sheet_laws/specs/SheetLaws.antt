-- One claim about the bytes that a month sheet's call writes: docs/SCOPE.md [sheet-output], [sheet-numbers], [sheet-return]. The answers
-- are the structs that the exported calls return, by the definitions that their contracts cite. Assumes nothing.
use Rattle.std.specs.Prelude.{ℕ, zero, suc, ◌≤◌, ◌<◌, ◌≡◌, true, cond, Some, List, [], ◌∷◌, ◌++◌, map, eqb, length, take, get_or}
use Rattle.markets.specs.Markets.{is_market}
use Rattle.markets.specs.Years.{is_supported}
use Rattle.ranges.specs.Ranges.{Every}
use Rattle.trading_days.specs.Month.{month_list}
use Rattle.range_calls.specs.RangeCalls.{trading_days_in_month_result, trading_days_in_month_buffer}
use Rattle.answers.specs.declared.counts.CountAnswer.{CountAnswer}
use Rattle.answers.specs.Answers.{count_answer}
use Rattle.answers.specs.Expected.{counted}
use Rattle.decimal.specs.Decimal.{value_of}
use Rattle.request.specs.Text.{ascii}
use Rattle.request.specs.Request.{DigitString, read_request}
use Rattle.sheet.specs.SheetCall.{month_sheet_result, month_sheet_buffer}

-- ---- the bytes in parts

-- what stands between the separators; `start` is what was read of it before
unfoldable pub split_from : List ℕ → ℕ → List ℕ → List (List ℕ)
split_from start separator [] = start ∷ []
split_from start separator (b ∷ text) =
    cond (eqb b separator) (start ∷ split_from [] separator text) (split_from (start ++ (b ∷ [])) separator text)

-- all that stands between them
abbrev pub split : ℕ → List ℕ → List (List ℕ)
split = split_from []

-- what stands between line feeds: the lines, and what follows the last line feed
abbrev pub split_lines : List ℕ → List (List ℕ)
split_lines = split 10

-- the text up to line feed k, and it
unfoldable pub first_lines : ℕ → List ℕ → List ℕ
first_lines zero text = []
first_lines (suc k) [] = []
first_lines (suc k) (b ∷ text) = b ∷ cond (eqb b 10) (first_lines k text) (first_lines (suc k) text)

-- what stands between commas; nothing in an empty text
unfoldable pub split_list : List ℕ → List (List ℕ)
split_list [] = []
split_list (b ∷ text) = split 44 (b ∷ text)

-- [sheet-numbers]: 1 to 9 digits, and the first of two or more is no `0`
pub record IsNumber (digits : List ℕ) : Type 0 where
  pub digit-string : DigitString digits
  pub no-leading-zero : 1 < length digits → get_or digits 0 0 ≡ 48 → ⊥

-- ---- the claim

abbrev pub month_call : ℕ → ℕ → ℕ → List ℕ → CountAnswer
month_call market year month buffer = count_answer (trading_days_in_month_result market year month buffer)

abbrev pub sheet_call : List ℕ → List ℕ → CountAnswer
sheet_call text buffer = count_answer (month_sheet_result text buffer)

-- The call on the text answered n, and these are the first n bytes of the buffer after it.
pub record SheetLaws (text : List ℕ) (n : ℕ) (written : List ℕ) : Type 0 where
  -- the text asks for a month
  pub market : ℕ
  pub year : ℕ
  pub month : ℕ
  pub request : read_request text ≡ Some (record { market = market; year = year; month = month })
  -- [sheet-return]
  pub length-is : length written ≡ n
  pub at_most : n ≤ 136
  -- [sheet-output]: five lines, each ended by a line feed, and nothing after the last
  pub market-digits : List ℕ
  pub year-digits : List ℕ
  pub month-digits : List ℕ
  pub count-digits : List ℕ
  pub days : List ℕ
  pub lines : split_lines written ≡
      (ascii "market=" ++ market-digits)
      ∷ (ascii "year=" ++ year-digits)
      ∷ (ascii "month=" ++ month-digits)
      ∷ (ascii "count=" ++ count-digits)
      ∷ (ascii "days=" ++ days)
      ∷ []
      ∷ []
  -- [sheet-numbers]: no number has a leading zero
  pub numbers : Every IsNumber (market-digits ∷ year-digits ∷ month-digits ∷ count-digits ∷ split_list days)
  -- the numbers that were read
  pub market-is : value_of market-digits ≡ market
  pub year-is : value_of year-digits ≡ year
  pub month-is : value_of month-digits ≡ month
  -- reading the first three lines gives them back
  pub read_back : read_request (first_lines 3 written) ≡ read_request text
  -- `count` is the length of `days`
  pub count-is : value_of count-digits ≡ length (split_list days)
  -- `days` are the month list's
  pub days-are : map value_of (split_list days) ≡ month_list market year month
  -- The month call writes the same days and answers the same count; and it gives no error where they fit.
  pub month-call : (buffer : List ℕ) (k : ℕ) → month_call market year month buffer ≡ counted k
      → (k ≡ value_of count-digits) × (take k (trading_days_in_month_buffer market year month buffer) ≡ map value_of (split_list days))
  pub no-error : (buffer : List ℕ) → value_of count-digits ≤ length buffer → month_call market year month buffer ≡ counted (value_of count-digits)

-- for every text and buffer
pub record AllSheetLaws : Type 0 where
  -- Where the text asks for a month of a supported year of one of the markets, and there is room, the call gives no error.
  pub answered : (text buffer : List ℕ) (market year month : ℕ) → read_request text ≡ Some (record { market = market; year = year; month = month }) → is_market market ≡ true → is_supported year ≡ true
      → 1 ≤ month → month ≤ 12 → 136 ≤ length buffer → (n : ℕ) × (sheet_call text buffer ≡ counted n)
  -- Where it gives none, the bytes written are the sheet of such a month.
  pub written : (text buffer : List ℕ) (n : ℕ) → sheet_call text buffer ≡ counted n → SheetLaws text n (take n (month_sheet_buffer text buffer))
