pub mod Assign
pub mod Keys
pub mod Sides
pub mod Walk
