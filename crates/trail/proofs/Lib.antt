-- The laws of the trail.
pub mod NumbersReadBack
pub mod RecordsReadBack
pub mod NewestReadsBack
pub mod Marks
pub mod Lengths
pub mod RecordRestores
pub mod Examples
-- What the code's loops and ways out rest on.
pub mod Putting
pub mod Adding
pub mod ShortRecords
