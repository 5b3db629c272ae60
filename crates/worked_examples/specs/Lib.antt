pub mod Shown
pub mod TrayLift
