pub mod MeshDouble
