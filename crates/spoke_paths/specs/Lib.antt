pub mod PathSteps
pub mod ReducedWords
pub mod PathTurns
pub mod Examples
