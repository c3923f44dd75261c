pub mod Follows
pub mod Hour
pub mod Points
pub mod Decide
pub mod Tests
pub mod Quick
