pub mod Walking
pub mod Naming
pub mod Changing
pub mod Picking
pub mod Examples
