-- The laws of records in a row.
pub mod Entries
pub mod Division
pub mod Trails
pub mod Examples
-- What the code's loops and ways out rest on.
pub mod Counting
pub mod Backwards
pub mod Exits
