pub mod Joint
pub mod Operands
pub mod Outcome
pub mod Views
