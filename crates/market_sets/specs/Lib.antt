pub mod MarketSets
pub mod Inner
