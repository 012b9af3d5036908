pub mod MeshCover
