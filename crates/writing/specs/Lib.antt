pub mod Numbers
pub mod Words
pub mod Judged
pub mod Put
pub mod Lists
