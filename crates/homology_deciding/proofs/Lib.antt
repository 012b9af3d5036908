pub mod Common
pub mod TreeLemmas
pub mod WayLemmas
pub mod BoundaryLemmas
pub mod CycleLemmas
pub mod LoopLemmas
pub mod ProofLemmas
