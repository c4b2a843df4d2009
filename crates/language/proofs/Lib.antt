-- The laws of the language: `Exactly` says which words are listed as WORD, `Meaning` what the names of a line say of a step, `Shapes` what a form says of
-- the fields, `Unique` that no two words have the same line at one address, and `Worked` has lines byte for byte. The others serve the code.
pub mod Naming
pub mod ByClass
pub mod Shapes
pub mod Exactly
pub mod Fields
pub mod Unique
pub mod Meaning
pub mod Worked
