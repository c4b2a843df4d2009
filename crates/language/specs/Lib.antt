pub mod Names
pub mod Line
