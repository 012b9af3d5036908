pub mod Common
pub mod Surfaces
pub mod Measuring
pub mod SurfaceRows
pub mod RunsOnWalks
pub mod SurfaceOutcomes
