pub mod Common
pub mod Rows
pub mod Settling
pub mod Losses
pub mod Law
