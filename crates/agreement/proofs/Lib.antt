pub mod Dates
pub mod NeighbourCalls
pub mod CountCalls
pub mod MonthCalls
pub mod CallsAgree
