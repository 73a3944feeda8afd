-- The month sheet: docs/SCOPE.md [sheet-output], [sheet-numbers]. Assumes nothing.
use Rattle.std.specs.Prelude.{ℕ, List, [], ◌∷◌, ◌++◌, length}
use Rattle.decimal.specs.Decimal.{decimal}
use Rattle.trading_days.specs.Month.{month_list}
use Rattle.request.specs.Text.{ascii, text_of}

-- the numbers, with commas between
unfoldable pub comma_separated : List ℕ → List ℕ
comma_separated [] = []
comma_separated (n ∷ []) = decimal n
comma_separated (n ∷ m ∷ ns) = decimal n ++ ascii "," ++ comma_separated (m ∷ ns)

-- [sheet-output]: the five lines
unfoldable pub sheet_lines : ℕ → ℕ → ℕ → List ℕ → List (List ℕ)
sheet_lines market year month days =
    (ascii "market=" ++ decimal market)
    ∷ (ascii "year=" ++ decimal year)
    ∷ (ascii "month=" ++ decimal month)
    ∷ (ascii "count=" ++ decimal (length days))
    ∷ (ascii "days=" ++ comma_separated days)
    ∷ []

-- the lines as one text
abbrev pub sheet_text : ℕ → ℕ → ℕ → List ℕ → List ℕ
sheet_text market year month days = text_of (sheet_lines market year month days)

-- the sheet of a month, with the days of the month list
abbrev pub month_sheet : ℕ → ℕ → ℕ → List ℕ
month_sheet market year month = sheet_text market year month (month_list market year month)
