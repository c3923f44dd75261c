pub mod OneLine
pub mod Sheets
