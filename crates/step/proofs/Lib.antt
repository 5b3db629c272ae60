pub mod Gathering
pub mod Questions
pub mod Leading
