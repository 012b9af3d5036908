pub mod WrittenMeshes
pub mod Parts
pub mod Examples
