pub mod Page
pub mod Refused
pub mod Parts
