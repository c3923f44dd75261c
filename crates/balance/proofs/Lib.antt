pub mod Rows
pub mod ByAgent
pub mod Found
pub mod Agents
pub mod Weighed
