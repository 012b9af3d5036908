pub mod Progress
pub mod Verify
