pub mod Fits
pub mod Taken
pub mod Endings
