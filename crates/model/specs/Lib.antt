pub mod Sets
pub mod Line
pub mod Task
pub mod Joint
pub mod Bounds
pub mod Size
