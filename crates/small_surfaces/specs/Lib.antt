pub mod Triangles
