pub mod Chains
pub mod Memory
pub mod Examples
