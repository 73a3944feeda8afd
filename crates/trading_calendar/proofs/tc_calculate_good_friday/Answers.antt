-- `trading_calendar::tc_calculate_good_friday` meets its contract: so many days from Easter.
use Prim.Native.Nat.{◌-◌}
use mathlib.Core.Path.{ap, ◌∙◌}
use native.Mathlib.Omega.{arith}
use Rattle.utils.specs.Easter.{calculate_easter, calculate_good_friday}
use Rattle.utils.proofs.EasterLaws.{map-day-same}
use Rattle.answers.specs.Answers.{optional_date}
use Rattle.trading_calendar.proofs.tc_calculate_good_friday.Goals as goal

pub returns : goal.returns
unfolding calculate_good_friday
returns c = c.easter_answer.ensures ∙ ap optional_date (map-day-same _ (λ n. n - 2) (calculate_easter c.args.year) (λ n. omega arith))
