pub mod Table
pub mod Decision
pub mod Sources
pub mod Destinations
pub mod FieldsOf
