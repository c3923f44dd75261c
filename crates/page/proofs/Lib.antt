pub mod Most
pub mod Paged
