pub mod PolygonLabellings
pub mod Examples
