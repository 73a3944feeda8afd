pub mod WholeYear
