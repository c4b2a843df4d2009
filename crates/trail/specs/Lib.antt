pub mod Numbers
pub mod Records
pub mod OneChange
pub mod Newest
