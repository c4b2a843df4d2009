pub mod AnnexA
pub mod Section3
pub mod Parts
pub mod Cases
