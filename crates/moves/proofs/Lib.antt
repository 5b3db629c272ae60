pub mod Lits
pub mod Bounds
pub mod Gathered
