pub mod Text
pub mod Page
pub mod Put
pub mod Agents
