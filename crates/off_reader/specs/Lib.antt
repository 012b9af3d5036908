pub mod OffTexts
pub mod OffSteps
pub mod OffExamples
