pub mod Classes
pub mod Fields
pub mod Sources
