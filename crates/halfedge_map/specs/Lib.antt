pub mod Orbits
pub mod OrientedMeshes
pub mod DartMaps
pub mod RotationSystems
pub mod StoredDarts
pub mod Examples
