pub mod Rows
pub mod Moving
