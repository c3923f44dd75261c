pub mod Rows
pub mod Read
pub mod Steps
pub mod Text
pub mod Made
