-- `utils::last_up_to` meets its contract: the loop of the definition, in closed form.
use Prim.Native.Nat.{ℕ, ◌+◌, ◌-◌, ◌%◌, ◌≤◌}
use mathlib.Core.Path.{◌≡◌, sym, ◌∙◌}
use native.Mathlib.Omega.{arith}
use Rattle.gregorian.specs.Calendar.{weekday_of}
use Rattle.utils.proofs.WeekdayLaws.{last-up-to}
use Rattle.utils.proofs.last_up_to.Goals as goal

-- by one remainder
days-back : (w n : ℕ) → w ≤ 6 → n - (n + 13 - w) % 7 ≡ n - (weekday_of n + 7 - w) % 7
unfolding weekday_of
days-back w n h = omega arith

pub returns : goal.returns
returns c =
    let a = c.args in
    days-back a.weekday a.n c.requires.0 ∙ sym (last-up-to a.weekday a.n c.requires.0 (omega arith))
