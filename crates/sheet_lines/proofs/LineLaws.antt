-- The laws of lines, and of numbers with commas between.
-- Assumes nothing.
use Prim.Native.Nat.{ℕ, ◌+◌, ◌-◌, ◌≤◌, ◌<◌, max}
use mathlib.Core.Path.{◌≡◌, refl, sym, ap, ◌∙◌}
use mathlib.Core.List.{List, [], ◌∷◌, ◌++◌, append_assoc, append-nil}
use lib.ListN.{length, get_or, take, drop, length-append}
use lib.Seq.{drop-cons}
use native.Mathlib.Numerals.{add-one}
use native.Mathlib.Omega.{arith}
use Rattle.buffers.proofs.BufferLaws.{rest-is}
use Rattle.decimal.specs.Decimal.{decimal}
use Rattle.request.specs.Text.{ascii, text_of}
use Rattle.sheet_lines.specs.Sheet.{comma_separated, sheet_lines, sheet_text}
use Rattle.std.specs.List.{sum_by}
use Rattle.std.proofs.lemmas.List.Sums.{sum_by-cons}
use Rattle.sheet_lines.specs.Inner.{lines, sheet_line, sheet_from}
use Rattle.sheet_lines.specs.declared.Sheet.{Sheet}

-- ---- numbers with commas between, and a line feed: none, one, and more

abbrev pub numbers_line : List ℕ → List ℕ
numbers_line numbers = comma_separated numbers ++ ascii "\n"

pub numbers-none : (numbers : List ℕ) → length numbers ≡ 0 → numbers_line numbers ≡ ascii "\n"
unfolding comma_separated
numbers-none [] h = refl
numbers-none (n ∷ ns) h = absurd (omega arith)

-- those after the first, as the code has them
abbrev pub others : List ℕ → List ℕ
others numbers = take (length numbers - 1) (drop 1 numbers)

-- n is the first
pub numbers-one : (numbers : List ℕ) (n : ℕ) → n ≡ get_or numbers 0 0 → length numbers ≡ 1 → numbers_line numbers ≡ decimal n ++ ascii "\n"
unfolding comma_separated
numbers-one [] n e h = absurd (omega arith)
numbers-one (m ∷ []) n e h = ap (λ (k : ℕ). decimal k ++ ascii "\n") (sym e)
numbers-one (m ∷ l ∷ ns) n e h = absurd (omega arith)

pub numbers_more : (numbers : List ℕ) (n : ℕ) → n ≡ get_or numbers 0 0 → 2 ≤ length numbers
    → numbers_line numbers ≡ decimal n ++ ascii "," ++ numbers_line (others numbers)
unfolding comma_separated
numbers_more [] n e h = absurd (omega arith)
numbers_more (m ∷ []) n e h = absurd (omega arith)
numbers_more (m ∷ l ∷ ns) n e h =
    append_assoc (decimal m ++ ascii ",") (comma_separated (l ∷ ns)) (ascii "\n")
    ∙ ap (λ (r : List ℕ). decimal m ++ ascii "," ++ numbers_line r) (sym (rest-is (m ∷ l ∷ ns) 1))
    ∙ ap (λ (k : ℕ). decimal k ++ ascii "," ++ numbers_line (others (m ∷ l ∷ ns))) (sym e)

-- the digits of a number, and a byte after them
abbrev pub with_end : ℕ → ℕ
with_end n = length (decimal n) + 1

pub numbers-length : (numbers : List ℕ) → max (sum_by with_end numbers) 1 ≡ length (numbers_line numbers)
unfolding comma_separated
numbers-length [] = refl
numbers-length (n ∷ []) = simp length-append (omega arith)
numbers-length (n ∷ m ∷ ns) =
    let rest = simp length-append at (numbers-length (m ∷ ns)) in
    simp length-append (omega (arith, sum_by-cons with_end n (m ∷ ns), sum_by-cons with_end m ns))

-- ---- the sheet

-- the text from line k on is that line, and the text from the next one on
text-from : (lines : List (List ℕ)) (k : ℕ) → k < length lines → text_of (drop k lines) ≡ get_or lines k [] ++ ascii "\n" ++ text_of (drop (k + 1) lines)
unfolding text_of
text-from lines k h = ap text_of (drop-cons lines k [] h) ∙ ap (λ (n : ℕ). get_or lines k [] ++ ascii "\n" ++ text_of (drop n lines)) (sym (add-one k))

pub sheet-from : (k : ℕ) (sheet : Sheet) → k < 4 → sheet_from k sheet ≡ sheet_line k sheet ++ sheet_from (k + 1) sheet
unfolding sheet_lines
sheet-from k sheet h = text-from (lines sheet) k (omega arith)

pub sheet-last : (k : ℕ) (sheet : Sheet) → k ≡ 4 → sheet_from k sheet ≡ ascii "days=" ++ numbers_line sheet.days.now
unfolding sheet_lines text_of
sheet-last k sheet e = ap (λ (i : ℕ). sheet_from i sheet) e ∙ append-nil (ascii "days=" ++ numbers_line sheet.days.now)

-- its names have 29 bytes, and the first four line feeds come to them
pub sheet-lengths : (market year month : ℕ) (days : List ℕ) → length (sheet_text market year month days)
    ≡ 33 + (length (decimal market) + length (decimal year) + length (decimal month)) + length (decimal (length days)) + length (numbers_line days)
unfolding sheet_lines text_of
sheet-lengths market year month days = simp length-append (omega arith)
