pub mod Ground
pub mod Parts
