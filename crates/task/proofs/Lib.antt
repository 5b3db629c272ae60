pub mod Looked
pub mod Lawful
