pub mod Steps
pub mod Counts
pub mod Sheet
pub mod Enters
