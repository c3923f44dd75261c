pub mod Told
pub mod Why
pub mod MendTold
pub mod BookTold
pub mod TextTold
pub mod WholeDay
