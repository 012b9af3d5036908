-- How the maps on the darts lie in memory: as lists, by rising darts, where the face list does not have them.
use Rattle.std.specs.Prelude.{◌≡◌, ℕ, ◌<◌, false, [], Bool, List, length, slice_index_or}
use Rattle.surf_model.specs.FaceLists.{FaceList, HasFileSize}
use Rattle.surf_model.specs.declared.names.DartName.{DartName}
use Rattle.surf_model.specs.declared.names.VertexName.{VertexName}
use Rattle.surf_model.specs.Surfaces.{is_flipped}
use Rattle.halfedge_map.specs.declared.darts.Origins.{Origins}
use Rattle.halfedge_map.specs.declared.darts.Origins.TheVariants.{AsListed, Stored}
use Rattle.halfedge_map.specs.OrientedMeshes.{OrientedMesh, IsOrientedSurface}
use Rattle.halfedge_map.specs.DartMaps.{darts_of, next_of, origin_of, used_vertices}

-- the number at a place of such a list
abbrev pub dart_in : List DartName → ℕ → ℕ
dart_in darts d = (slice_index_or darts d (record { 0 = 0 })).0

abbrev pub vertex_in : List VertexName → ℕ → ℕ
vertex_in vertices d = (slice_index_or vertices d (record { 0 = 0 })).0

-- for each of the first n darts the next one
pub record ListNexts (surface : OrientedMesh) (n : ℕ) (next : List DartName) : Type 0 where
  pub long : length next ≡ n
  pub nexts : (d : ℕ) → d < n → dart_in next d ≡ next_of surface d

-- for each of the first n darts the vertex where it starts
pub record ListOrigins (surface : OrientedMesh) (n : ℕ) (origin : List VertexName) : Type 0 where
  pub long : length origin ≡ n
  pub origins : (d : ℕ) → d < n → vertex_in origin d ≡ origin_of surface d

-- where the first n darts start: with no list no face is flipped, so that each starts where its side does
abbrev pub KeepOrigins : OrientedMesh → ℕ → Origins → Type 0
KeepOrigins surface n AsListed = (face : ℕ) → is_flipped surface.signs face ≡ false
KeepOrigins surface n (Stored origin) = ListOrigins surface n origin.items

-- a mesh with signs, where the table plays no part
abbrev pub signed : FaceList → List Bool → OrientedMesh
signed mesh signs = record { mesh = mesh; table = []; signs = signs }

-- what holds of a stored surface
pub record IsStoredSurface (surface : OrientedMesh) (next : List DartName) (origins : Origins) (vertices : ℕ) : Type 0 where
  pub oriented : IsOrientedSurface surface
  pub small : HasFileSize surface.mesh
  pub nexts : ListNexts surface (darts_of surface) next
  pub origins_kept : KeepOrigins surface (darts_of surface) origins
  pub used : vertices ≡ used_vertices surface
