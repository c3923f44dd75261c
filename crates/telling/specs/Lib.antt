pub mod Text
pub mod Tell
pub mod Enough
pub mod Lists
