-- The example of docs/SCOPE.md [sheet-output], computed.
-- Assumes nothing.
use mathlib.Core.Path.{◌≡◌, refl}
use mathlib.Core.List.{[], ◌∷◌}
use Rattle.decimal.specs.Decimal.{decimal_in, decimal}
use Rattle.request.specs.Text.{ascii, text_of}
use Rattle.sheet_lines.specs.Sheet.{comma_separated, sheet_lines, sheet_text}

pub example : sheet_text 4 2022 12 (1 ∷ 2 ∷ 5 ∷ 6 ∷ 7 ∷ 8 ∷ 9 ∷ 12 ∷ 13 ∷ 14 ∷ 15 ∷ 16 ∷ 19 ∷ 20 ∷ 21 ∷ 22 ∷ 23 ∷ 27 ∷ 28 ∷ 29 ∷ 30 ∷ [])
    ≡ ascii "market=4\nyear=2022\nmonth=12\ncount=21\ndays=1,2,5,6,7,8,9,12,13,14,15,16,19,20,21,22,23,27,28,29,30\n"
unfolding text_of sheet_lines comma_separated decimal decimal_in
example = refl
