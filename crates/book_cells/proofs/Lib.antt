pub mod Put
pub mod Looked
pub mod Turning
pub mod Held
