pub mod Places
pub mod Changes
pub mod Verdicts
pub mod Range
pub mod Sound
pub mod Promises
pub mod Report
