pub mod Stages
pub mod Planted
pub mod Holdings
pub mod Judged
