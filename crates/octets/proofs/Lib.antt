pub mod Trip
pub mod Stretch
