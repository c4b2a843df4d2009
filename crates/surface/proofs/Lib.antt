pub mod TextsSeen
pub mod TrailsSeen
