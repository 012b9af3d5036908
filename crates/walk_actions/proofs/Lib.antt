pub mod Corners
pub mod Runs
pub mod Actions
