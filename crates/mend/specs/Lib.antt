pub mod Mend
pub mod Steps
