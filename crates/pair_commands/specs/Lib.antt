pub mod PairInput
pub mod Decide
