-- `markets::is_trading_day` meets its contract: a weekend, and another day.
use mathlib.Core.Path.{◌≡◌, refl, sym, ap, ◌∙◌}
use mathlib.Core.Bool.{Bool, true, false, not, ◌&&◌}
use Rattle.markets.specs.Markets.{is_holiday, is_trading_day}
use Rattle.markets.proofs.MonthFirst.{month-first}
use Rattle.markets.proofs.is_trading_day.Goals as goal

weekend : (h w : Bool) → w ≡ true → not w ≡ (not h && not w)
weekend true w e = ap not e
weekend false w e = refl

other : (h w : Bool) → w ≡ false → not h ≡ (not h && not w)
other true w e = refl
other false w e = sym (ap not e)

pub returns-then-not-is_weekend : goal.returns-then-not-is_weekend
unfolding is_trading_day
returns-then-not-is_weekend c =
    let a = c.args in
    ap not (c.is_holiday_on.ensures ∙ month-first a.market a.day)
    ∙ other (is_holiday a.market a.day.number) _ (sym c.is_weekend.ensures ∙ c.if-not-is_weekend.true)

pub returns-else-not-is_weekend : goal.returns-else-not-is_weekend
unfolding is_trading_day
returns-else-not-is_weekend c =
    ap not c.is_weekend.ensures
    ∙ weekend (is_holiday c.args.market c.args.day.number) _ (sym c.is_weekend.ensures ∙ c.if-not-is_weekend.false)
