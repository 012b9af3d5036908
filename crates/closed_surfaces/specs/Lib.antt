pub mod SignedSurfaces
pub mod ComponentGenera
