pub mod Renamings
pub mod Examples
