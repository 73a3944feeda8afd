-- `markets::is_holiday_on` meets its contract: the arm of LSE.
use Prim.Native.Nat.{ℕ}
use mathlib.Core.Path.{ap, sym, ◌∙◌}
use Rattle.rule_days.specs.Inner.{any_of}
use Rattle.markets.specs.Inner.{rules}
use Rattle.markets.proofs.is_holiday_on.Goals as goal

pub returns-in-2 : goal.returns-in-2
returns-in-2 c = let a = c.args in c.is_uk_holiday.ensures ∙ ap (λ (i : ℕ). any_of a.month (rules i a.year a.number)) (sym c.in-2.is)
