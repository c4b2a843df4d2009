pub mod ReadingGroups
pub mod ReadingNumbers
pub mod ShortRecords
