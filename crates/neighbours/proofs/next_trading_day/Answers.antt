-- `neighbours::next_trading_day` meets its contract: the first that trades of the days after.
use Rattle.std.proofs.Common.{rules, tests, refl, ◌∙◌, arith}
use Rattle.std.proofs.lemmas.Iterator.Search.{find_from_yields_List}
use Rattle.std.proofs.lemmas.Iterator.Consumers.{YieldsList-from_first}
use Rattle.markets.specs.Markets.{is_trading_day}
use Rattle.markets.proofs.YearLaws.{searched-days}
use Rattle.ranges.specs.Ranges.{days, find}
use Rattle.ranges.proofs.Search.{by-find}
use Rattle.neighbours.proofs.next_trading_day.Goals as goal

pub after-requires : goal.after-requires
after-requires c = omega (arith, c.last_day_of.ensures, searched-days c.args.market)

pub returns : goal.returns
returns c =
    let trades = is_trading_day c.args.market in
    let after = YieldsList-from_first (λ day. day.number) (λ s. days s.next s.last) _ refl in
    let from = c.after.ensures.0 in
    let to = c.after.ensures.1 ∙ c.last_day_of.ensures in
    find_from_yields_List trades c.find.new.self _ c.find.result c.find.ensures.ran after (λ x b q k. search (rules, tests))
    ∙ by-find trades _
    ∙ λ j. find trades (days (from j) (to j))
