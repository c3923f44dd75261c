pub mod FirstBad
pub mod Fine
