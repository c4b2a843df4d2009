-- The laws of this crate's definitions.
pub mod Bytes
pub mod Exits
pub mod Fields
pub mod FirstBad
pub mod Lengths
pub mod ReadBack
pub mod Returns
pub mod RoundTrip
pub mod Texts
pub mod Theorems
pub mod Words
pub mod Worked
