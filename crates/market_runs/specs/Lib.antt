pub mod MarketAgreement
