-- The laws of a text that is split: its lines, and numbers with commas between.
-- Assumes nothing.
use Prim.Native.Nat.{ℕ, zero, suc, ◌≤◌, ◌<◌}
use mathlib.Core.Path.{◌≡◌, refl, sym, ap, ◌∙◌}
use mathlib.Core.Bool.{false}
use mathlib.Core.List.{List, [], ◌∷◌, ◌++◌, append_assoc, append-nil, map}
use lib.Dec.{eqb}
use lib.ListN.{length, take, length-append}
use native.Mathlib.Omega.{arith}
use borrow.Author.Tests.{eq-eqb, ne_eqb}
use Rattle.ranges.specs.Ranges.{Every}
use Rattle.ranges.proofs.Items.{every_append}
use Rattle.decimal.specs.Decimal.{decimal, leading_digits}
use Rattle.decimal.proofs.DigitLaws.{by_digits}
use Rattle.decimal.proofs.DecimalLaws.{length-positive, decimal-digits}
use Rattle.request.specs.Text.{ascii, text_of}
use Rattle.sheet_lines.specs.Sheet.{comma_separated}
use Rattle.sheet_laws.specs.SheetLaws.{split_from, split, split_lines, first_lines, split_list}

-- ---- parts

-- All bytes of the part are above the separator, as digits and letters are above a comma, and a comma above a line feed.
abbrev pub Above : ℕ → List ℕ → Type 0
Above separator part = Every (λ b. separator < b) part

-- a part up to a separator, and the last one; the first bytes of it were read before
module _ (separator : ℕ) where
  other : (b : ℕ) → separator < b → eqb b separator ≡ false
  other b h = ne_eqb b separator (λ e. omega arith)

  next-part : (start part rest : List ℕ) → Above separator part
      → split_from start separator (part ++ (separator ∷ rest)) ≡ (start ++ part) ∷ split separator rest
  unfolding split_from
  next-part start [] rest w = simp (eq-eqb separator separator refl, append-nil)
  next-part start (b ∷ part) rest w =
      simp (other b w.0)
      (next-part (start ++ (b ∷ [])) part rest w.1 ∙ ap (λ (l : List ℕ). l ∷ split separator rest) (append_assoc start (b ∷ []) part))

  last-part : (start part : List ℕ) → Above separator part → split_from start separator part ≡ (start ++ part) ∷ []
  unfolding split_from
  last-part start [] w = simp append-nil
  last-part start (b ∷ part) w =
      simp (other b w.0) (last-part (start ++ (b ∷ [])) part w.1 ∙ ap (λ (l : List ℕ). l ∷ []) (append_assoc start (b ∷ []) part))

-- a number
pub decimal-above : (separator n : ℕ) → separator < 48 → Above separator (decimal n)
decimal-above separator n h = digits_above (decimal n) (decimal-digits n)
  where
    digits_above : (digits : List ℕ) → leading_digits digits ≡ length digits → Above separator digits
    digits_above =
        by_digits (λ digits. leading_digits digits ≡ length digits → Above separator digits) (λ e. tt)
        (λ b digits low high e rest q. (omega arith, rest (omega arith)))
        (λ b digits e q. absurd (omega arith))

-- ---- lines

-- A text is split into its lines, and nothing after the last.
pub split_text : (lines : List (List ℕ)) → Every (Above 10) lines → split_lines (text_of lines) ≡ lines ++ ([] ∷ [])
unfolding split_from text_of
split_text [] w = refl
split_text (line ∷ lines) w =
    ap (split 10) (append_assoc line (ascii "\n") (text_of lines))
    ∙ next-part 10 [] line (text_of lines) w.0
    ∙ ap (λ (l : List (List ℕ)). line ∷ l) (split_text lines w.1)

-- The first k lines, by their line feeds.
first-line : (line rest : List ℕ) (k : ℕ) → Above 10 line → first_lines (suc k) (line ++ (10 ∷ rest)) ≡ line ++ (10 ∷ first_lines k rest)
unfolding first_lines
first-line [] rest k w = refl
first-line (b ∷ line) rest k w = simp (other 10 b w.0) (ap (λ (l : List ℕ). b ∷ l) (first-line line rest k w.1))

pub first-lines : (k : ℕ) (lines : List (List ℕ)) → Every (Above 10) lines → first_lines k (text_of lines) ≡ text_of (take k lines)
unfolding first_lines text_of
first-lines zero lines w = refl
first-lines (suc k) [] w = refl
first-lines (suc k) (line ∷ lines) w =
    ap (first_lines (suc k)) (append_assoc line (ascii "\n") (text_of lines))
    ∙ first-line line (text_of lines) k w.0
    ∙ ap (λ (l : List ℕ). line ++ (10 ∷ l)) (first-lines k lines w.1)
    ∙ sym (append_assoc line (ascii "\n") (text_of (take k lines)))

-- ---- numbers with commas between

-- no line feed in them
pub numbers-above : (numbers : List ℕ) → Above 10 (comma_separated numbers)
unfolding comma_separated
numbers-above [] = tt
numbers-above (n ∷ []) = decimal-above 10 n (omega arith)
numbers-above (n ∷ m ∷ ns) =
    every_append _ (decimal n ++ ascii ",") (comma_separated (m ∷ ns))
    (every_append _ (decimal n) (ascii ",") (decimal-above 10 n (omega arith)) (omega arith)) (numbers-above (m ∷ ns))

-- one number or more
split-numbers : (n : ℕ) (ns : List ℕ) → split 44 (comma_separated (n ∷ ns)) ≡ map decimal (n ∷ ns)
unfolding comma_separated
split-numbers n [] = last-part 44 [] (decimal n) (decimal-above 44 n (omega arith))
split-numbers n (m ∷ ns) =
    ap (split 44) (append_assoc (decimal n) (ascii ",") (comma_separated (m ∷ ns)))
    ∙ next-part 44 [] (decimal n) (comma_separated (m ∷ ns)) (decimal-above 44 n (omega arith))
    ∙ ap (λ (l : List (List ℕ)). decimal n ∷ l) (split-numbers m ns)

-- a text that is not empty, as that of one number or more is not
split-some : (text : List ℕ) → 1 ≤ length text → split_list text ≡ split 44 text
unfolding split_list
split-some [] h = absurd (omega arith)
split-some (b ∷ text) h = refl

numbers-some : (n : ℕ) (ns : List ℕ) → 1 ≤ length (comma_separated (n ∷ ns))
unfolding comma_separated
numbers-some n [] = length-positive n
numbers-some n (m ∷ ns) = simp length-append (omega (arith, length-positive n))

-- They are split into the numbers, also where there is none.
pub split-list : (numbers : List ℕ) → split_list (comma_separated numbers) ≡ map decimal numbers
unfolding split_list comma_separated
split-list [] = refl
split-list (n ∷ ns) = split-some (comma_separated (n ∷ ns)) (numbers-some n ns) ∙ split-numbers n ns
