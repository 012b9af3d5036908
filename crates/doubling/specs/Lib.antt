pub mod Doubles
pub mod Folds
pub mod DoubleFaults
pub mod Building
pub mod Examples
