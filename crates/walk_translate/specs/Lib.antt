pub mod SurfaceLabels
pub mod DartSpokes
pub mod Spoked
pub mod LabelledSurfaces
pub mod Found
