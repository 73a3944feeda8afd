-- `market_sets::is_common_trading_day` meets its contract: each turn of the loop is one market.
use Rattle.std.proofs.Common.{ℕ, ◌≡◌, length, sym, ap, ◌∙◌, arith}
use Rattle.markets.specs.Markets.{holidays_by_code}
use Rattle.market_sets.specs.MarketSets.{all_below, trades_if_member}
use Rattle.market_sets.proofs.SetLaws.{none_below, one-more-below, no_member, trading-member, all_pass, one-closed}
use Rattle.market_sets.proofs.is_common_trading_day.Goals as goal
use Rattle.market_sets.proofs.is_common_trading_day.Goals.{else-has_market-via-then-has_market+else-not-is_trading_day, else-has_market-via-else-has_market}

pub loop-market-init : goal.loop-market-init
loop-market-init c = record { high = omega arith; passed = none_below _ }

pub returns-then-not-is_trading_day : goal.returns-then-not-is_trading_day
returns-then-not-is_trading_day c =
    sym
    (one-closed c.args.markets c.args.day.number c.loop-market.market (omega arith) (sym c.has_market.ensures ∙ c.if-has_market.true) (sym c.is_trading_day.ensures ∙ c.if-not-is_trading_day.true))

pub loop-market-preserved : goal.loop-market-preserved
loop-market-preserved c =
    let a = c.args in
    let market = c.loop-market.market in
    let asked = sym c.has_market.ensures in
    let one_more = one-more-below (trades_if_member a.markets a.day.number) market c.loop-market.invariant.passed in
    record {
      high = omega arith;
      passed = elim c.else-has_market.branch [
        | else-has_market-via-then-has_market+else-not-is_trading_day w ↦ one_more (trading-member a.markets a.day.number market (asked ∙ w.if-has_market.true) (sym w.is_trading_day.ensures ∙ w.if-not-is_trading_day.false))
        | else-has_market-via-else-has_market w ↦ one_more (no_member a.markets a.day.number market (asked ∙ w.if-has_market.false))
      ];
    }

pub returns : goal.returns
returns c =
    let a = c.args in
    let i = c.loop-market.invariant in
    let all : c.loop-market.market ≡ length holidays_by_code = omega (arith, i.high) in
    sym (all_pass a.markets a.day.number (ap (λ (k : ℕ). all_below k (trades_if_member a.markets a.day.number)) (sym all) ∙ i.passed))
