pub mod Handing
pub mod PuttingBack
