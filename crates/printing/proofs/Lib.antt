pub mod Text
pub mod Money
pub mod Printing
pub mod Front
pub mod Digits
pub mod Length
pub mod Cases
