-- `trading_days::count` meets its contract: each turn of the loop is one day of the count.
use Rattle.std.proofs.Common.{ℕ, ◌∷◌, ◌≡◌, ◌+◌, length, ap, sym, refl, ◌∙◌, arith}
use Rattle.std.specs.Int.{from_bool}
use Rattle.gregorian.specs.Calendar.{date_of}
use Rattle.markets.specs.Markets.{is_trading_day}
use Rattle.ranges.specs.Ranges.{days, filter}
use Rattle.ranges.proofs.Lists.{days_length, day-first, days-none, filter_none}
use Rattle.ranges.proofs.Counts.{counted, count-first, flag-high}
use Rattle.trading_days.proofs.count.Goals as goal
use Rattle.trading_days.proofs.count.Goals.{then-is_trading_day, else-is_trading_day}

pub loop-number-init : goal.loop-number-init
loop-number-init c =
    let first = c.args.first in
    record {
      low = c.requires.0;
      same = c.requires.1;
      last_in = c.requires.2;
      below = omega (arith, days_length first c.args.last, c.requires.0, c.requires.2);
      counted = omega (arith, counted (is_trading_day c.args.market) first c.args.last);
    }

pub loop-number-preserved : goal.loop-number-preserved
loop-number-preserved c =
    let trades = is_trading_day c.args.market in
    let last = c.args.last in
    let i = c.loop-number.invariant in
    let n = c.loop-number.number in
    let asked = sym c.is_trading_day.ensures in
    let more : c.if-is_trading_day.count ≡ c.loop-number.count + from_bool (trades n) = elim c.if-is_trading_day.branch [
      | then-is_trading_day w ↦ omega (arith, w.count-is, ap from_bool (asked ∙ w.if-is_trading_day.true))
      | else-is_trading_day w ↦ omega (arith, w.count-is, ap from_bool (asked ∙ w.if-is_trading_day.false))
    ] in
    let after = c.day_after-next.ensures in
    let m = c.day_after-next.result.0 in
    let first = day-first n last n (omega arith) refl ∙ ap (λ (k : ℕ). n ∷ days k last) (sym after.0) in
    let step = count-first trades n (days n last) (days m last) first in
    record {
      low = omega (arith, after.0);
      same = after.1 ∙ ap date_of (sym after.0);
      last_in = i.last_in;
      below = omega (arith, i.below, ap length first, more, flag-high (trades n));
      counted = omega (arith, i.counted, step, more);
    }

pub returns : goal.returns
returns c =
    let trades = is_trading_day c.args.market in
    let i = c.loop-number.invariant in
    let end = ap length (ap (filter trades) (days-none c.loop-number.number c.args.last (omega arith)) ∙ filter_none trades) in
    omega (arith, i.counted, end)
