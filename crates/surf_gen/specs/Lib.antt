pub mod Sizes
pub mod Chains
pub mod Places
pub mod ChainTexts
pub mod Parts
pub mod TrialWalks
pub mod Examples
