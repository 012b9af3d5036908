pub mod SurfaceRefusals
pub mod SurfaceInput
pub mod Surface
pub mod Examples
