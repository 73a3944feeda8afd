-- `market_sets::first_common_day` meets its contract: the first of the days on which every market of the set trades.
use Rattle.std.proofs.Common.{rules, tests, refl, ◌∙◌}
use Rattle.std.proofs.lemmas.Iterator.Search.{find_from_yields_List}
use Rattle.std.proofs.lemmas.Iterator.Consumers.{YieldsList-from_first}
use Rattle.ranges.specs.Ranges.{days, find}
use Rattle.ranges.proofs.Search.{by-find}
use Rattle.market_sets.specs.MarketSets.{is_common_trading_day}
use Rattle.market_sets.proofs.first_common_day.Goals as goal

pub returns : goal.returns
returns c =
    let common = is_common_trading_day c.args.markets in
    let left = YieldsList-from_first (λ day. day.number) (λ s. days s.next s.last) _ refl in
    let from = c.new.ensures.0 in
    let to = c.new.ensures.1 in
    find_from_yields_List common c.find.new.self _ c.find.result c.find.ensures.ran left (λ x b q k. search (rules, tests))
    ∙ by-find common _
    ∙ λ j. find common (days (from j) (to j))
