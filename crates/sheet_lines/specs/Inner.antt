-- Inner: no exported contract and no claim rests on these. The sheet as its writers have it. Assumes nothing.
use Rattle.std.specs.Prelude.{ℕ, List, [], ◌++◌, drop, get_or}
use Rattle.request.specs.Text.{ascii, text_of}
use Rattle.sheet_lines.specs.Sheet.{sheet_lines, sheet_text}
use Rattle.sheet_lines.specs.declared.Sheet.{Sheet}

-- its lines
abbrev pub lines : Sheet → List (List ℕ)
lines sheet = sheet_lines sheet.request.market sheet.request.year sheet.request.month sheet.days.now

-- line k, of which the first has number 0, with its line feed
abbrev pub sheet_line : ℕ → Sheet → List ℕ
sheet_line k sheet = get_or (lines sheet) k [] ++ ascii "\n"

-- the text from line k on
abbrev pub sheet_from : ℕ → Sheet → List ℕ
sheet_from k sheet = text_of (drop k (lines sheet))

-- the whole text
abbrev pub text : Sheet → List ℕ
text sheet = sheet_text sheet.request.market sheet.request.year sheet.request.month sheet.days.now
