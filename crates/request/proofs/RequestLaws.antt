-- The laws of the reader of the text.
-- Assumes nothing.
use Prim.Native.Nat.{ℕ, ◌+◌, ◌≤◌, ◌<◌}
use mathlib.Core.Path.{◌≡◌, refl, sym, ap, ◌∙◌}
use mathlib.Core.Bool.{Bool, true, false, false≢true, cond, ◌&&◌}
use mathlib.Core.List.{List, [], ◌∷◌, ◌++◌, append_assoc}
use lib.Dec.{leb, eqb}
use lib.ListN.{length, take, drop, get_or, length-append, drop_of_length-le, get_or-eq_default}
use lib.Pointwise.{pointwise}
use lib.Seq.{drop-cons, drop-drop, split_at, length-take-le}
use native.Mathlib.Decide.{dec_lt}
use native.Mathlib.Numerals.{add-one}
use native.Mathlib.Omega.{arith}
use borrow.Author.Tests.{leb-true, eqb-true}
use Rattle.std.specs.Prelude.{Option, Some, None, option_map}
use Rattle.std.proofs.lemmas.Option.{cond_some, none-some}
use Rattle.gregorian.proofs.Tests.{and_left, and_right}
use Rattle.decimal.specs.Decimal.{leading_digits, value_of}
use Rattle.decimal.proofs.DigitLaws.{leading_le, leading-take}
use Rattle.request.specs.Text.{ascii}
use Rattle.request.specs.Request.{DigitString, starts_with, read_number, after, read_line, at_end}
use Rattle.request.specs.declared.Line.{Line}
use Rattle.request.specs.declared.Request.{Request}

-- ---- what the readers' contracts need

-- whether `strip_prefix` finds the name
pub name_stripped : (name text : List ℕ) → pointwise eqb (take (length name) text) name ≡ starts_with name text
unfolding starts_with
name_stripped [] text = refl
name_stripped (x ∷ name) [] = refl
name_stripped (x ∷ name) (b ∷ text) = ap (λ (t : Bool). eqb b x && t) (name_stripped name text)

-- the digits that are read
pub digits_read : (text : List ℕ) (n : ℕ) → n ≡ leading_digits text
    → (leading_digits (take n text) ≡ length (take n text)) × (length (take n text) ≡ n)
digits_read text n e =
    let long = length-take-le n text (omega (arith, leading_le text)) in
    (rw (long, e) (leading-take text), long)

-- nothing is left, or something
pub none_left : (text : List ℕ) (size : ℕ) (r : Request) → length text ≤ size → at_end (drop size text) r ≡ Some r
unfolding at_end
none_left text size r h = rw (drop_of_length-le text h) refl

pub some_left : (text : List ℕ) (size : ℕ) (r : Request) → size < length text → at_end (drop size text) r ≡ None
unfolding at_end
some_left text size r h = rw (drop-cons text size 0 h) refl

pub ruleset ends = (none_left, some_left)

-- ---- the line

-- A text that starts with the name is the name and what follows it.
name-first : (name text : List ℕ) → starts_with name text ≡ true → text ≡ name ++ drop (length name) text
unfolding starts_with
name-first [] text h = refl
name-first (x ∷ name) [] h = absurd (false≢true h)
name-first (x ∷ name) (b ∷ text) h =
    rw (eqb-true b x (and_left (eqb b x) _ h)) (ap (λ (l : List ℕ). x ∷ l) (name-first name text (and_right (eqb b x) _ h)))

-- a line of the form
abbrev pub line : List ℕ → List ℕ → List ℕ
line name digits = name ++ digits ++ ascii "\n"

-- The text starts with such a line, which has this value and size.
pub record StartsWithLine (name text : List ℕ) (read : Line) : Type 0 where
  pub digits : List ℕ
  pub digit-string : DigitString digits
  pub value-is : read.value ≡ value_of digits
  pub size_is : read.size ≡ length (line name digits)
  pub text-is : text ≡ line name digits ++ drop read.size text

-- the line, and what follows it
pub line-then : {name text : List ℕ} {read : Line} (s : StartsWithLine name text read) (rest : List ℕ) → drop read.size text ≡ rest
    → text ≡ line name s.digits ++ rest
line-then {name} s rest e = s.text-is ∙ ap (λ (l : List ℕ). line name s.digits ++ l) e

-- What is read as a number, and as a line, is one.
number_read : (text : List ℕ) (read : Line) → read_number text ≡ Some read → StartsWithLine [] text read
unfolding read_number
number_read text read h =
    let n = leading_digits text in
    let digits = take n text in
    let r = cond_some (leb 1 n && leb n 9 && eqb (get_or text n 0) 10) _ _ h in
    let few = and_left (leb 1 n && leb n 9) _ r.0 in
    let low : 1 ≤ n = leb-true 1 n (and_left (leb 1 n) _ few) in
    let high : n ≤ 9 = leb-true n 9 (and_right (leb 1 n) _ few) in
    let feed : get_or text n 0 ≡ 10 = eqb-true _ _ (and_right (leb 1 n && leb n 9) _ r.0) in
    let inside : n < length text =
    elim (dec_lt n (length text)) [ yes p ↦ p | no p ↦ absurd (let z = sym (get_or-eq_default text 0 (omega arith)) ∙ feed in omega arith) ] in
    let d = digits_read text n refl in
    let s : read.size ≡ n + 1 = sym (ap (λ (l : Line). l.size) r.1) in
    record {
      digits = digits;
      digit-string = (d.0, omega arith, omega arith);
      value-is = sym (ap (λ (l : Line). l.value) r.1);
      size_is = rw length-append (omega arith);
      text-is = rw (s, add-one, append_assoc digits _ _) (rw feed at (split_at text n 0 inside));
    }

-- the number after a name
number-after : (n : ℕ) (o : Option Line) (read : Line) → option_map (after n) o ≡ Some read
    → (l : Line) × (o ≡ Some l) × (read.value ≡ l.value) × (read.size ≡ n + l.size)
number-after n (Some l) read h = (l, refl, cc, cc)
number-after n None read h = absurd (none-some read h)

cond_true : {A : Type 0} {x : A} (b : Bool) (o : Option A) → cond b o None ≡ Some x → (b ≡ true) × (o ≡ Some x)
cond_true true o h = (refl, h)
cond_true {x} false o h = absurd (none-some x h)

pub line_read : (name text : List ℕ) (read : Line) → read_line name text ≡ Some read → StartsWithLine name text read
unfolding read_line
line_read name text read h =
    let r = cond_true (starts_with name text) _ h in
    let a = number-after (length name) _ read r.1 in
    let s = number_read (drop (length name) text) a.0 a.1 in
    let left : drop a.0.size (drop (length name) text) ≡ drop read.size text = drop-drop a.0.size (length name) text ∙ ap (λ (k : ℕ). drop k text) (sym a.3) in
    record {
      digits = s.digits;
      digit-string = s.digit-string;
      value-is = a.2 ∙ s.value-is;
      size_is = simp length-append (omega (arith, a.3, simp length-append at s.size_is));
      text-is = name-first name text r.0 ∙ ap (λ (l : List ℕ). name ++ l) (rw left at s.text-is) ∙ simp append_assoc;
    }
