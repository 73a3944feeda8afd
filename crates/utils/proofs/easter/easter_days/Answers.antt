-- `utils::easter::easter_days` meets its contract: no difference falls below 0, and the letters are the definition's.
use Prim.Native.Nat.{ℕ, ◌+◌}
use mathlib.Core.Path.{ap, sym, ◌∙◌}
use native.Mathlib.Omega.{arith}
use Rattle.gregorian.specs.Calendar.{day_number}
use Rattle.utils.proofs.EasterLaws.{days_after, easter-days, days-high}
use Rattle.utils.proofs.easter.easter_days.Goals as goal

pub returns : goal.returns
unfolding days_after
returns c =
    let y = c.args.year in
    let days = ap (days_after y) c.moon_days-h.ensures.0 in
    (easter-days y ∙ ap (λ (d : ℕ). day_number y 3 22 + d) (sym days), omega (arith, days, days-high y))
