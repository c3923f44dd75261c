pub mod Deals
pub mod Hour
