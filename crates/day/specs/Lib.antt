pub mod Day
pub mod Steps
