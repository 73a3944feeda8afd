-- The text that is read: docs/SCOPE.md [sheet-input]. Assumes nothing.
use Rattle.std.specs.Prelude.{Option, Some, None, option_map, ℕ, ◌+◌, ◌≤◌, ◌≡◌, Bool, true, false, cond, ◌&&◌, List, [], ◌∷◌, ◌++◌, leb, eqb, length, take, drop, get_or}
use Rattle.decimal.specs.Decimal.{leading_digits, value_of}
use Rattle.request.specs.Text.{ascii, text_of}
use Rattle.request.specs.declared.Line.{Line}
use Rattle.request.specs.declared.Request.{Request}

-- ---- the form

-- 1 to 9 decimal digits
abbrev pub DigitString : List ℕ → Type 0
DigitString digits = (leading_digits digits ≡ length digits) × (1 ≤ length digits) × (length digits ≤ 9)

-- the text with these three digit strings
unfoldable pub request_text : List ℕ → List ℕ → List ℕ → List ℕ
request_text market year month =
    text_of ((ascii "market=" ++ market) ∷ (ascii "year=" ++ year) ∷ (ascii "month=" ++ month) ∷ [])

-- ---- the reader, each line's from what the one before it left

-- the text starts with the name
unfoldable pub starts_with : List ℕ → List ℕ → Bool
starts_with [] text = true
starts_with (x ∷ name) [] = false
starts_with (x ∷ name) (b ∷ text) = eqb b x && starts_with name text

-- the text starts with 1 to 9 digits and a line feed: their value, and how many bytes these are
unfoldable pub read_number : List ℕ → Option Line
read_number text =
    let n = leading_digits text in
    cond (leb 1 n && leb n 9 && eqb (get_or text n 0) 10) (Some (record { value = value_of (take n text); size = n + 1 })) None

-- n bytes more
abbrev pub after : ℕ → Line → Line
after n line = record { value = line.value; size = n + line.size }

-- the text starts with the name and such a number
unfoldable pub read_line : List ℕ → List ℕ → Option Line
read_line name text = cond (starts_with name text) (option_map (after (length name)) (read_number (drop (length name) text))) None

-- What follows a line: its value, and what is left of the text, go to the reader of the next.
unfoldable pub on_line : Option Line → List ℕ → (ℕ → List ℕ → Option Request) → Option Request
on_line (Some line) text next = next line.value (drop line.size text)
on_line None text next = None

-- nothing is left
unfoldable pub at_end : List ℕ → Request → Option Request
at_end [] request = Some request
at_end (b ∷ text) request = None

-- the third line, and the end of the text
unfoldable pub read_month : ℕ → ℕ → List ℕ → Option Request
read_month market year text =
    on_line (read_line (ascii "month=") text) text (λ month rest. at_end rest (record { market = market; year = year; month = month }))

-- the second line, and then the third
unfoldable pub read_year : ℕ → List ℕ → Option Request
read_year market text = on_line (read_line (ascii "year=") text) text (λ year rest. read_month market year rest)

-- [sheet-input]: the market, year and month that the text names
unfoldable pub read_request : List ℕ → Option Request
read_request text = on_line (read_line (ascii "market=") text) text read_year
