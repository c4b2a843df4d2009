pub mod Digits
pub mod Placed
pub mod Stands
pub mod Text
