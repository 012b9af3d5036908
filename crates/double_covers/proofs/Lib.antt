pub mod Common
pub mod Sheets
pub mod CoverFaces
pub mod LiftedWalks
pub mod LowerMoves
pub mod LiftedMoves
pub mod WayLemmas
pub mod RingLemmas
