pub mod Balances
pub mod Parts
