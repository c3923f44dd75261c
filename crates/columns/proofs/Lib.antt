pub mod Columns
pub mod Numbers
pub mod Refusing
pub mod Cases
