pub mod Rows
pub mod Good
pub mod Same
pub mod There
pub mod Back
pub mod RoundTrip
pub mod Put
