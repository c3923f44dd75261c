pub mod Parts
pub mod Hours
pub mod Outcome
