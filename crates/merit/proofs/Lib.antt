pub mod Levels
pub mod Schedule
pub mod LeastCost
pub mod MustRun
pub mod Price
pub mod Cases
