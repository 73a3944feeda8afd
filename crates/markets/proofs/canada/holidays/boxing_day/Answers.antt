-- `markets::canada::holidays::boxing_day` meets its contract: each arm of the weekday.
use Prim.Native.Nat.{ℕ, ◌+◌}
use mathlib.Core.Path.{sym, ◌∙◌}
use native.Mathlib.Omega.{arith}
use Rattle.rule_days.proofs.DayLaws.{on-key, on-weekday}
use Rattle.markets.proofs.CanadaLaws.{boxing-day-is}
use Rattle.markets.proofs.canada.holidays.boxing_day.Goals as goal

-- where 26 December moves to, from either day of a weekend
abbrev moved : ℕ → ℕ
moved n = n + 2

pub returns-in-5 : goal.returns-in-5
returns-in-5 c = on-key moved moved c.fixed_day-boxing.result _ _ (sym c.weekday.ensures ∙ c.in-5.is) c.fixed_day-boxing.ensures.0 ∙ sym (boxing-day-is _)

pub returns-in-6 : goal.returns-in-6
returns-in-6 c = on-key moved moved c.fixed_day-boxing.result _ _ (sym c.weekday.ensures ∙ c.in-6.is) c.fixed_day-boxing.ensures.0 ∙ sym (boxing-day-is _)

pub returns-in_default : goal.returns-in_default
returns-in_default c = on-weekday moved moved _ _ (λ k. omega arith) (λ k. omega arith) c.fixed_day-boxing.ensures.0 ∙ sym (boxing-day-is _)
