pub mod Passes
pub mod Accounts
pub mod Parts
pub mod Check
