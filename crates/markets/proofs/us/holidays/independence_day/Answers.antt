-- `markets::us::holidays::independence_day` meets its contract: each arm of the weekday.
use Prim.Native.Nat.{ℕ, ◌+◌, ◌-◌}
use mathlib.Core.Path.{sym, ◌∙◌}
use native.Mathlib.Omega.{arith}
use Rattle.rule_days.proofs.DayLaws.{on-key, on-weekday}
use Rattle.markets.proofs.us.holidays.independence_day.Goals as goal

-- where 4 July moves to
abbrev on-saturday : ℕ → ℕ
on-saturday n = n - 1

abbrev on-sunday : ℕ → ℕ
on-sunday n = n + 1

pub returns-in-5 : goal.returns-in-5
returns-in-5 c = on-key on-saturday on-sunday c.fixed_day-july_4.result _ _ (sym c.weekday.ensures ∙ c.in-5.is) c.fixed_day-july_4.ensures.0

pub returns-in-6 : goal.returns-in-6
returns-in-6 c = on-key on-saturday on-sunday c.fixed_day-july_4.result _ _ (sym c.weekday.ensures ∙ c.in-6.is) c.fixed_day-july_4.ensures.0

pub returns-in_default : goal.returns-in_default
returns-in_default c = on-weekday on-saturday on-sunday _ _ (λ k. omega arith) (λ k. omega arith) c.fixed_day-july_4.ensures.0
