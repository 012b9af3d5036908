pub mod Common
pub mod CoverChecks
pub mod WalkTexts
pub mod CoverAnswers
