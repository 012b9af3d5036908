pub mod Common
pub mod ShortTexts
pub mod OpenInputs
pub mod OpenOutcomes
pub mod Listing
