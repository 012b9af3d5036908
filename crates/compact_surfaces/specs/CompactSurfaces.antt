-- Compact surfaces, in any number of pieces, closed or with boundary, orientable or not: three conditions, tried in this order. There is a
-- face; no edge has three or more sides; and at each vertex the corners make one ring, or one fan where the vertex is on the boundary.
use Rattle.std.specs.Prelude.{◌≡◌, ◌⊎◌, ◌<◌, length}
use Rattle.surf_model.specs.FaceLists.{FaceList}
use Rattle.surf_model.specs.Surfaces.{IsOrientable}
use Rattle.connectivity.specs.Joined.{NoEdgeHasThreeSides, EachVertexHasOneRing}
use Rattle.free_forms.specs.OpenSurfaces.{HasBoundary}
use Rattle.doubling.specs.Doubles.{double_of}

pub record IsCompactSurface (mesh : FaceList) : Type 0 where
  pub some_face : 0 < length mesh.faces
  pub few_sides : NoEdgeHasThreeSides mesh
  pub one_ring : EachVertexHasOneRing mesh

-- one whose faces have coherent signs
pub record IsOrientableCompactSurface (mesh : FaceList) : Type 0 where
  pub compact : IsCompactSurface mesh
  pub orientable : IsOrientable mesh

-- the closed manifold that answers for the surface: its double where it has boundary, and else itself
abbrev pub IsClosedFor : FaceList → FaceList → Type 0
IsClosedFor mesh closed = (HasBoundary mesh × (closed ≡ double_of mesh)) ⊎ ((HasBoundary mesh → ⊥) × (closed ≡ mesh))
