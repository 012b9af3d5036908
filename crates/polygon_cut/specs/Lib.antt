pub mod Polygons
pub mod StoredPolygons
pub mod SpokeLoops
pub mod RingWalks
pub mod ShortWalks
