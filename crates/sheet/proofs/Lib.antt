pub mod Accepted
pub mod Sections
pub mod Cases
pub mod Counted
