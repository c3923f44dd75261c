pub mod Steps
pub mod Alike
pub mod Stages
pub mod Duties
pub mod Confidence
pub mod Checks
pub mod Statements
