pub mod Histories
pub mod Hits
