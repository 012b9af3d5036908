pub mod Common
pub mod Reducing
pub mod ReduceOutcomes
