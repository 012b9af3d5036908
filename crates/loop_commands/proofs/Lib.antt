pub mod Common
pub mod LoopChecks
pub mod LoopAnswers
pub mod LoopOutcomes
