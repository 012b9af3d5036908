pub mod Answered
pub mod CompactSurfaces
pub mod Faults
pub mod Kept
pub mod Manifolds
pub mod Signed
pub mod Examples
