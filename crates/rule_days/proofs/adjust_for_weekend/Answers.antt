-- `rule_days::adjust_for_weekend` meets its contract: each arm of the weekday.
use Prim.Native.Nat.{ℕ, ◌+◌}
use mathlib.Core.Path.{refl, sym, ◌∙◌}
use native.Mathlib.Omega.{arith}
use Rattle.rule_days.proofs.DayLaws.{on-key, on-weekday}
use Rattle.rule_days.proofs.adjust_for_weekend.Goals as goal

-- where the day moves to
abbrev on-saturday : ℕ → ℕ
on-saturday n = n + 2

abbrev on-sunday : ℕ → ℕ
on-sunday n = n + 1

pub returns-in-5 : goal.returns-in-5
returns-in-5 c = on-key on-saturday on-sunday c.args.n _ _ (sym c.weekday.ensures ∙ c.in-5.is) refl

pub returns-in-6 : goal.returns-in-6
returns-in-6 c = on-key on-saturday on-sunday c.args.n _ _ (sym c.weekday.ensures ∙ c.in-6.is) refl

pub returns-in_default : goal.returns-in_default
returns-in_default c = on-weekday on-saturday on-sunday _ _ (λ k. omega arith) (λ k. omega arith) refl
