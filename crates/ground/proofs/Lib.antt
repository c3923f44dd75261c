pub mod Rows
pub mod Admitted
