pub mod FreeStepLemmas
pub mod MovedSteps
