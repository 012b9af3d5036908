pub mod Ways
pub mod Turns
pub mod Claims
pub mod Building
