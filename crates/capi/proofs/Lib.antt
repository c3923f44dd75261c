pub mod Told
pub mod ToldMend
pub mod ToldBook
pub mod ToldText
pub mod Outcomes
pub mod WholeDay
pub mod Copied
