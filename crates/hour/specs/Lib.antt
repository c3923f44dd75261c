pub mod Sheet
pub mod Balance
pub mod Signed
pub mod Lines
pub mod Sound
pub mod Answer
