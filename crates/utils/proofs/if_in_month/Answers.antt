-- `utils::if_in_month` meets its contract: each return answers by the tests before it.
use Prim.Native.Nat.{ℕ}
use mathlib.Core.Bool.{Bool}
use mathlib.Core.Path.{◌≡◌, ap, sym, ◌∙◌}
use lib.Dec.{eqb}
use borrow.Author.Tests.{lt-leb, le-leb}
use Rattle.gregorian.specs.declared.Date.{Date}
use Rattle.gregorian.specs.Calendar.{date_of}
use Rattle.utils.specs.Weekday.{if_in_month}
use Rattle.utils.proofs.if_in_month.Goals as goal

-- the comparison is that of the definition
same-month : (n m : ℕ) (t : Date) (b : Bool) → t ≡ date_of n → b ≡ eqb t.month m → eqb (date_of n).month m ≡ b
same-month n m t b e q = ap (λ (t : Date). eqb t.month m) (sym e) ∙ sym q

pub returns-then-target-gt-LAST_DAY : goal.returns-then-target-gt-LAST_DAY
unfolding if_in_month
returns-then-target-gt-LAST_DAY c = simp (lt-leb _ _ c.if-target-gt-LAST_DAY.true)

pub returns-then-has_same_month_number : goal.returns-then-has_same_month_number
unfolding if_in_month
returns-then-has_same_month_number c = simp (le-leb _ _ c.if-target-gt-LAST_DAY.false, same-month _ _ _ _ c.date_of.ensures c.has_same_month_number.ensures ∙ c.if-has_same_month_number.true)

pub returns-else-has_same_month_number : goal.returns-else-has_same_month_number
unfolding if_in_month
returns-else-has_same_month_number c = simp (le-leb _ _ c.if-target-gt-LAST_DAY.false, same-month _ _ _ _ c.date_of.ensures c.has_same_month_number.ensures ∙ c.if-has_same_month_number.false)
