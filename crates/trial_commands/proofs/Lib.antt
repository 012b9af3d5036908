pub mod Common
pub mod Trying
pub mod ChainReading
pub mod TrialOutcomes
