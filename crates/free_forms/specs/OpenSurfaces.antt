-- When a face list is a connected surface with boundary: five conditions, tried in this order. There is a face; no edge has three or more
-- sides; some edge has one side; at each vertex the corners make one fan or one ring; and any two vertices are joined by a walk.
use Rattle.std.specs.Prelude.{◌≡◌, ℕ, ◌<◌, length}
use Rattle.surf_model.specs.FaceLists.{FaceList}
use Rattle.surf_model.specs.Surfaces.{sides_between}
use Rattle.surf_model.specs.Components.{EachTwoAreJoined}
use Rattle.connectivity.specs.Joined.{NoEdgeHasThreeSides, EachVertexHasOneRing}

-- some edge is the edge of one side alone: it is on the boundary
abbrev pub HasBoundary : FaceList → Type 0
HasBoundary mesh = (u : ℕ) × (v : ℕ) × (sides_between mesh u v ≡ 1)

-- a surface with boundary; it need not be orientable
pub record IsOpenSurface (mesh : FaceList) : Type 0 where
  pub some_face : 0 < length mesh.faces
  pub few_sides : NoEdgeHasThreeSides mesh
  pub boundary : HasBoundary mesh
  pub one_fan : EachVertexHasOneRing mesh
  pub connected : EachTwoAreJoined mesh
