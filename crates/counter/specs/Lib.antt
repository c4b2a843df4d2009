pub mod Lines
pub mod Routine
