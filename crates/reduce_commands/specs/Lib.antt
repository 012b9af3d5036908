pub mod Reduce
pub mod Canonised
