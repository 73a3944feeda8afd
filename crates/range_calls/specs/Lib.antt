pub mod RangeCalls
