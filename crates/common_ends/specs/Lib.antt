pub mod Trimmed
pub mod Examples
