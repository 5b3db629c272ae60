pub mod Operands
pub mod Walks
