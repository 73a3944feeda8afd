-- `trading_calendar::tc_calculate_easter_monday` meets its contract: so many days from Easter.
use Prim.Native.Nat.{◌+◌}
use mathlib.Core.Path.{ap, ◌∙◌}
use native.Mathlib.Omega.{arith}
use Rattle.utils.specs.Easter.{calculate_easter, calculate_easter_monday}
use Rattle.utils.proofs.EasterLaws.{map-day-same}
use Rattle.answers.specs.Answers.{optional_date}
use Rattle.trading_calendar.proofs.tc_calculate_easter_monday.Goals as goal

pub returns : goal.returns
unfolding calculate_easter_monday
returns c = c.easter_answer.ensures ∙ ap optional_date (map-day-same _ (λ n. n + 1) (calculate_easter c.args.year) (λ n. omega arith))
