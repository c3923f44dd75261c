pub mod Input
pub mod Cases
