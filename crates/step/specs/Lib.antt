pub mod Lawful
pub mod Phases
pub mod Finishing
