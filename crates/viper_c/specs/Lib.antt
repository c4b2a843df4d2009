pub mod Surface
pub mod Handed
pub mod Restoring
