pub mod CyclicWords
pub mod LoopSteps
pub mod Rotations
pub mod Examples
pub mod Private
