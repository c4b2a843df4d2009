-- The laws of this crate's definitions. A caller's proofs cite `FirstBytes` for a text longer than its buffer.
pub mod FirstBytes
pub mod Lengths
pub mod ReadBack
pub mod Reading
pub mod Worked
