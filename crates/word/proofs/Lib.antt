pub mod Casts
pub mod Results
pub mod Carries
