pub mod Verdicts
pub mod Bounds
pub mod Demand
pub mod Fits
pub mod Money
pub mod Cells
pub mod Balance
pub mod Cases
