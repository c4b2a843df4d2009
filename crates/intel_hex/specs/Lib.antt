pub mod Digits
pub mod Exported
pub mod Imported
pub mod Layout
pub mod Lines
pub mod Returns
