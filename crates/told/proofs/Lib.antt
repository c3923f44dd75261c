pub mod Walks
pub mod Over
pub mod Lists
pub mod Marks
pub mod Back
pub mod Accepted
pub mod Most
