pub mod Reading
pub mod Asking
pub mod Sections
pub mod Counting
