pub mod Vectors
pub mod FlatStates
pub mod Pairs
pub mod Examples
pub mod Lemmas
