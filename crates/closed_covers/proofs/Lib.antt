pub mod Common
pub mod CoverSides
pub mod CoverEdges
pub mod CoverRings
pub mod JoinedCovers
pub mod ClosedCovers
pub mod CoverNumbers
