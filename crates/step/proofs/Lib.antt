pub mod Planning
pub mod Stores
pub mod Completing
