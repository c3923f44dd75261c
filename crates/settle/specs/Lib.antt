pub mod Settled
pub mod Parts
