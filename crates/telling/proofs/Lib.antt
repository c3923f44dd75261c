pub mod Serving
pub mod Going
pub mod Same
pub mod Telling
pub mod Cases
