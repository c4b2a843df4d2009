pub mod Lowest
pub mod Viewing
pub mod Stepping
pub mod Exits
pub mod Finding
