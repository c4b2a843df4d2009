-- The laws of the listing: `Lengths` says how long a line and a listing are, `Answers` has one law for each way out of the call. The others serve the
-- functions that make a line.
pub mod Spacing
pub mod Operands
pub mod Lengths
pub mod Lines
pub mod Answers
