pub mod Marking
pub mod Filling
pub mod Reading
pub mod Cases
