pub mod ByKind
pub mod Good
