pub mod Result
pub mod Confidence
