-- `markets::is_market` meets its contract.
use Rattle.markets.specs.Markets.{is_market}
use Rattle.markets.proofs.MarketLaws.{up-to-last}
use Rattle.markets.proofs.is_market.Goals as goal

pub returns : goal.returns
unfolding is_market
returns c = up-to-last c.args.market _
