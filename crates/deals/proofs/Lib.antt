pub mod Cases
pub mod Own
pub mod Firm
pub mod Rest
pub mod Demanded
pub mod Amounts
pub mod Hours
