pub mod Faults
pub mod Fields
pub mod Lines
pub mod Written
