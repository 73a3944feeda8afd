-- The reader accepts exactly the texts of the form.
-- Assumes nothing.
use Prim.Native.Nat.{ℕ, ◌+◌, ◌≤◌}
use mathlib.Core.Path.{◌≡◌, refl, sym, ap, ◌∙◌}
use mathlib.Core.Bool.{true}
use mathlib.Core.List.{List, [], ◌∷◌, ◌++◌, append_assoc}
use lib.ListN.{length, drop, get_or, length-append}
use lib.Seq.{take-append_seam, drop-append_seam, get_or-append_seam}
use native.Mathlib.Omega.{arith}
use borrow.Author.Tests.{eq-eqb, le-leb}
use Rattle.std.specs.Prelude.{Option, Some, None}
use Rattle.std.proofs.lemmas.Option.{none-some, same_Some}
use Rattle.decimal.specs.Decimal.{leading_digits, value_of}
use Rattle.decimal.proofs.DigitLaws.{leading-append}
use Rattle.request.specs.Text.{ascii, text_of}
use Rattle.request.specs.Request.{DigitString, request_text, starts_with, read_number, read_line, on_line, at_end, read_month, read_year, read_request}
use Rattle.request.specs.Form.{HasForm, ReadsTheForm}
use Rattle.request.specs.declared.Line.{Line}
use Rattle.request.specs.declared.Request.{Request}
use Rattle.request.proofs.RequestLaws.{line, StartsWithLine, line-then, line_read}

-- ---- one line

-- the name and then anything
starts-with-name : (name rest : List ℕ) → starts_with name (name ++ rest) ≡ true
unfolding starts_with
starts-with-name [] rest = refl
starts-with-name (x ∷ name) rest = simp (eq-eqb x x refl) (starts-with-name name rest)

-- the digits end at the line feed
digits-end : (digits rest : List ℕ) → leading_digits digits ≡ length digits → length digits ≡ leading_digits (digits ++ (10 ∷ rest))
unfolding leading_digits
digits-end digits rest h = omega (arith, leading-append digits (10 ∷ rest) h)

-- a number and a line of the form are read
number-accepted : (digits rest : List ℕ) → DigitString digits
    → read_number (digits ++ (10 ∷ rest)) ≡ Some (record { value = value_of digits; size = length digits + 1 })
unfolding read_number
number-accepted digits rest d =
    let feed = eq-eqb (get_or (digits ++ (10 ∷ rest)) (length digits) 0) 10 (get_or-append_seam digits 10 rest 0) in
    simp (← digits-end digits rest d.0, le-leb 1 (length digits) d.1, le-leb (length digits) 9 d.2, feed, take-append_seam digits (10 ∷ rest))

line-accepted : (name digits rest : List ℕ) → DigitString digits
    → read_line name (line name digits ++ rest) ≡ Some (record { value = value_of digits; size = length (line name digits) })
unfolding read_line
line-accepted name digits rest d =
    rw (append_assoc (name ++ digits) _ rest, append_assoc name digits (ascii "\n" ++ rest), starts-with-name, drop-append_seam)
    (rw (number-accepted digits rest d) (ap (λ (n : ℕ). let read : Line = record { value = value_of digits; size = n } in Some read) (simp length-append (omega arith))))

-- After a line of the form its value and what follows it go to the reader of the next.
line-goes-on : (name digits rest : List ℕ) (next : ℕ → List ℕ → Option Request) → DigitString digits
    → (let text = line name digits ++ rest in on_line (read_line name text) text next ≡ next (value_of digits) rest)
unfolding on_line
line-goes-on name digits rest next d = rw (line-accepted name digits rest d, drop-append_seam (line name digits) rest) refl

-- A text that is accepted starts with such a line, and the reader of the next accepts what follows it.
line-accepts : (name text : List ℕ) (next : ℕ → List ℕ → Option Request) (r : Request) (o : Option Line) → read_line name text ≡ o
    → on_line o text next ≡ Some r → (l : Line) × StartsWithLine name text l × (next l.value (drop l.size text) ≡ Some r)
unfolding on_line
line-accepts name text next r (Some l) e h = (l, line_read name text l e, h)
line-accepts name text next r None e h = absurd (none-some r h)

-- nothing is left
end-accepts : (text : List ℕ) (read r : Request) → at_end text read ≡ Some r → (text ≡ []) × (read ≡ r)
unfolding at_end
end-accepts [] read r h = (refl, same_Some read r h)
end-accepts (b ∷ text) read r h = absurd (none-some r h)

-- ---- three lines

-- Each line of the form goes on to the next, and the last one to the end.
accepts : (a b c : List ℕ) → DigitString a → DigitString b → DigitString c
    → read_request (request_text a b c) ≡ Some (record { market = value_of a; year = value_of b; month = value_of c })
unfolding read_request read_year read_month at_end request_text text_of
accepts a b c is-a is_b is_c =
    let month-line = line (ascii "month=") c ++ [] in
    let year-line = line (ascii "year=") b ++ month-line in
    line-goes-on (ascii "market=") a year-line read_year is-a
    ∙ line-goes-on (ascii "year=") b month-line (read_month (value_of a)) is_b
    ∙ line-goes-on (ascii "month=") c [] (λ month rest. at_end rest (record { market = value_of a; year = value_of b; month = month })) is_c

-- Each line that is accepted is one of the form, and nothing is left after the last.
only : (text : List ℕ) (r : Request) → read_request text ≡ Some r → HasForm text r.market r.year r.month
unfolding read_request read_year read_month request_text text_of
only text r h =
    let a = line-accepts (ascii "market=") text read_year r _ refl h in
    let b = line-accepts (ascii "year=") (drop a.0.size text) (read_month a.0.value) r _ refl a.2 in
    let left = drop b.0.size (drop a.0.size text) in
    let asked : ℕ → Request = λ o. record { market = a.0.value; year = b.0.value; month = o } in
    let c = line-accepts (ascii "month=") left (λ o rest. at_end rest (asked o)) r _ refl b.2 in
    let end = end-accepts (drop c.0.size left) (asked c.0.value) r c.2 in
    let same = sym end.1 in
    record {
      market-digits = a.1.digits;
      year-digits = b.1.digits;
      month-digits = c.1.digits;
      market-is = (a.1.digit-string, ap (λ (q : Request). q.market) same ∙ a.1.value-is);
      year-is = (b.1.digit-string, ap (λ (q : Request). q.year) same ∙ b.1.value-is);
      month-is = (c.1.digit-string, ap (λ (q : Request). q.month) same ∙ c.1.value-is);
      text-is = line-then a.1 _ (line-then b.1 _ (line-then c.1 [] end.0));
    }

-- the longest text of the form
at-most-48 : (text : List ℕ) (market year month : ℕ) → HasForm text market year month → length text ≤ 48
unfolding request_text text_of
at-most-48 text market year month f = omega (arith, simp length-append at (ap length f.text-is))

-- an answer that is no month
no-month : (text : List ℕ) (o : Option Request) → read_request text ≡ o → ((market year month : ℕ) → HasForm text market year month → ⊥) → o ≡ None
no-month text (Some r) e none = absurd (none r.market r.year r.month (only text r e))
no-month text None e none = refl

-- [sheet-input]
pub reads-the-form : ReadsTheForm
reads-the-form = record {
  accepts = accepts;
  only = λ text market year month. only text (record { market = market; year = year; month = month });
  malformed = λ text none. no-month text (read_request text) refl none;
  too_long = λ text h. no-month text (read_request text) refl (λ m y o f. let most = at-most-48 text m y o f in omega arith);
}
