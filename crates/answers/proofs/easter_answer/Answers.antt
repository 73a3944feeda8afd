-- `answers::easter_answer` meets its contract: a day of March or April is the one of the definition.
use Rattle.std.proofs.Common.{Option, option_map}
use Prim.Native.Nat.{ℕ, ◌+◌, ◌-◌, ◌≤◌}
use mathlib.Core.Path.{◌≡◌, ap, sym, ◌∙◌}
use native.Mathlib.Omega.{arith}
use Rattle.gregorian.specs.declared.Date.{Date}
use Rattle.gregorian.specs.Calendar.{day_number, date_of}
use Rattle.utils.specs.Easter.{easter, calculate_easter}
use Rattle.utils.proofs.EasterLaws.{easter-found}
use Rattle.answers.specs.declared.OptionalDate.{OptionalDate}
use Rattle.answers.specs.Answers.{optional_date}
use Rattle.answers.proofs.easter_answer.Goals as goal

-- the day of March is that of the definition
march-day : (y k days : ℕ) → easter y ≡ day_number y 3 22 + days → 1 ≤ k → day_number y 3 (k + days) ≡ easter y + k - 22
unfolding day_number
march-day y k days e h = omega (arith, e)

pub returns : goal.returns
unfolding optional_date
returns c =
    let a = c.args in
    let found : calculate_easter a.year ≡ _ = easter-found a.year (omega arith) (omega arith) in
    let day = march-day a.year a.march_day _ c.easter_days.ensures.0 (omega arith) in
    ap {B = OptionalDate} (λ (t : Date). record { found = 1; date = t }) (c.march_date.ensures ∙ ap date_of day)
    ∙ ap (λ (o : Option ℕ). optional_date (option_map (λ n. n + a.march_day - 22) o)) (sym found)
